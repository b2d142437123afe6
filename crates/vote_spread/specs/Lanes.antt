-- Workers' lanes, and what they count.
use Rattle.std.specs.Prelude.{◌≡◌, ℕ, ◌+◌, ◌<◌, ◌≤◌, List, length, slice_index, sum_by, All}
use Rattle.plain_ballots.specs.declared.limits.TheConstants.{MOST_BALLOTS}
use Rattle.meek_rule.specs.Weights.{vote}
use Rattle.vote_spread.specs.declared.limits.TheConstants.{MOST_WORKERS}
use Rattle.vote_spread.specs.Stem.{Stem}
use Rattle.vote_spread.specs.Packed.{StandFor}
use Rattle.vote_spread.specs.KeepingSeen.{KeepingSeen}
use Rattle.vote_spread.specs.LaneSeen.{LaneSeen, AreFit}

-- lanes that count single ballots at these keep values, where `scale` units are one vote, and each lane's tally
pub record LanesSeen : Type 0 where
  pub scale : ℕ
  pub ballots : List (List ℕ)
  pub keeps : List ℕ
  pub tallies : List (List ℕ)

-- From 1 to 32 lanes, each with a tally for all candidates and fit for its share, over stems that stand for these
-- ballots.
pub record AreReady (ballots : List (List ℕ)) (stems : List Stem) (keeping : KeepingSeen)
    (lanes : List LaneSeen) : Type 0 where
  pub stand : StandFor (length keeping.keeps) 1 stems ballots
  pub few_ballots : length ballots ≤ MOST_BALLOTS
  pub at_most_one : All (λ k. k ≤ keeping.one) keeping.keeps
  pub some : 1 ≤ length lanes
  pub few : length lanes ≤ MOST_WORKERS
  pub of_all : All (λ lane. length lane.tally ≡ length keeping.keeps) lanes
  pub fit : AreFit keeping stems 0 (length lanes) lanes

-- The tallies of all lanes together are the votes at the keep values. All else is as before.
pub record HaveCounted (old new : LanesSeen) : Type 0 where
  pub same_scale : new.scale ≡ old.scale
  pub same_ballots : new.ballots ≡ old.ballots
  pub same_keeps : new.keeps ≡ old.keeps
  pub votes : (p : ℕ) → p < length old.keeps → sum_by (λ tally. slice_index tally p) new.tallies ≡ vote old.scale old.keeps old.ballots (p + 1)

-- These keep values are taken over. All else is as before, but for the tallies.
pub record AreLoaded (keeps : List ℕ) (old new : LanesSeen) : Type 0 where
  pub same_scale : new.scale ≡ old.scale
  pub same_ballots : new.ballots ≡ old.ballots
  pub loaded : new.keeps ≡ keeps
  pub at_most_one : All (λ k. k ≤ new.scale) new.keeps
  pub few : length new.ballots ≤ MOST_BALLOTS
