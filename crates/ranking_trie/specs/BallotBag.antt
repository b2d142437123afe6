-- A bag of ballots.
use Rattle.std.specs.Prelude.{◌≡◌, ℕ, ◌≤◌, List, ◌++◌, length, count_by, nat_eq, All, IsSorted, IsPermutation}
use Rattle.std.specs.Ordering.{nat_cmp}
use Rattle.std.specs.Cmp.Lexicographic.{pointwise, slice_cmp}
use Rattle.plain_ballots.specs.declared.limits.TheConstants.{MOST_BALLOTS, MOST_CANDIDATES}
use Rattle.plain_ballots.specs.Ranking.{IsRanking}

-- the single rankings of a bag of ballots among so many candidates, and room for as many further ranks
pub record BallotBag : Type 0 where
  pub candidates : ℕ
  pub ballots : List (List ℕ)
  pub spare : ℕ

-- a total of ballots, not too many, that are rankings of 1 to 250 candidates
pub record IsSoundBag (n total : ℕ) (ballots : List (List ℕ)) : Type 0 where
  pub some : 1 ≤ n
  pub few_candidates : n ≤ MOST_CANDIDATES
  pub counted : total ≡ length ballots
  pub few : length ballots ≤ MOST_BALLOTS
  pub rankings : All (λ r. IsRanking n r) ballots

-- rankings in the lexicographic order of candidate numbers: one is before its own extensions
abbrev pub AreInOrder : List (List ℕ) → Type 0
AreInOrder ballots = IsSorted (slice_cmp nat_cmp) ballots

-- how many ballots have this ranking
abbrev pub count_of : List ℕ → List (List ℕ) → ℕ
count_of ranking ballots = count_by (λ r. pointwise nat_eq r ranking) ballots

-- a bag of these ballots and others
pub record Holds (whole part : List (List ℕ)) : Type 0 where
  pub others : List (List ℕ)
  pub are : IsPermutation whole (part ++ others)
