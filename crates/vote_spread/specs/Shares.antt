-- How stems are shared among lanes.
use Rattle.std.specs.Prelude.{◌≡◌, ℕ, ◌+◌, ◌^◌, ◌<◌, ◌≤◌, List, length, slice_index, sum}
use Rattle.shared_work.specs.Shares.{share}
use Rattle.vote_spread.specs.Stem.{Stem}
use Rattle.vote_spread.specs.Walk.{IsWalk}
use Rattle.vote_spread.specs.KeepingSeen.{KeepingSeen}
use Rattle.vote_spread.specs.Gain.{gains, opening, part}

-- what share k of the stems gives to candidate c
abbrev pub share_of : (s : ℕ) (keeps : List ℕ) (c : ℕ) → List Stem → (k lanes : ℕ) → ℕ
share_of s keeps c stems k lanes = part s keeps c stems (share (length stems) k lanes) (share (length stems) (k + 1) lanes)

-- stems of as many candidates as there are keep values, that give none of them more units than a word holds
pub record CanCount (keeping : KeepingSeen) (stems : List Stem) : Type 0 where
  pub whole : 1 ≤ keeping.one
  pub walk : IsWalk (length keeping.keeps) 1 stems
  pub room :
      (p : ℕ) → p < length keeping.keeps
      → sum (gains keeping.one keeping.keeps (p + 1) (opening keeping.one) stems) < 2 ^ 64

-- a tally of what share k of the stems gives to each candidate
pub record HasCounted (keeping : KeepingSeen) (stems : List Stem) (k lanes : ℕ) (tally : List ℕ) :
    Type 0 where
  pub of_all : length tally ≡ length keeping.keeps
  pub share :
      (p : ℕ) → p < length keeping.keeps
      → slice_index tally p ≡ share_of keeping.one keeping.keeps (p + 1) stems k lanes
