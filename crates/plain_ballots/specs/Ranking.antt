-- A ballot's candidates in order of rank.
use Rattle.std.specs.Prelude.{ℕ, ◌-◌, ◌≤◌, ◌≢◌, List, length, take, slice_index, All, AllPairs, Contains}
use Rattle.plain_ballots.specs.declared.rank_stop.RankStop.{RankStop}
use Rattle.plain_ballots.specs.declared.rank_stop.RankStop.TheVariants.{OutOfRange, Repeated, NoMemory}

-- different numbers from 1
pub record AreRanks (ranks : List ℕ) : Type 0 where
  pub positive : All (λ r. 1 ≤ r) ranks
  pub different : AllPairs (λ a b. a ≢ b) ranks

-- different candidates from 1 to n
pub record IsRanking (n : ℕ) (ranks : List ℕ) : Type 0 where
  pub numbers : All (λ r. (1 ≤ r) × (r ≤ n)) ranks
  pub different : AllPairs (λ a b. a ≢ b) ranks

-- the number that is at a place from 1
abbrev pub rank_at : List ℕ → ℕ → ℕ
rank_at ranks place = slice_index ranks (place - 1)

-- the numbers before a place from 1
abbrev pub before : List ℕ → ℕ → List ℕ
before ranks place = take (place - 1) ranks

-- a ranking of n candidates is before this place from 1, and no candidate's number at it
pub record IsOutOfRangeAt (n : ℕ) (ranks : List ℕ) (place : ℕ) : Type 0 where
  pub from_one : 1 ≤ place
  pub inside : place ≤ length ranks
  pub sound_before : IsRanking n (before ranks place)
  pub no_candidate : ¬ ((1 ≤ rank_at ranks place) × (rank_at ranks place ≤ n))

-- a ranking of n candidates is before this place from 1, and one of its candidates again at it
pub record IsRepeatedAt (n : ℕ) (ranks : List ℕ) (place : ℕ) : Type 0 where
  pub from_one : 1 ≤ place
  pub inside : place ≤ length ranks
  pub sound_before : IsRanking n (before ranks place)
  pub stood_before : Contains (before ranks place) (rank_at ranks place)

-- why ranks are no ranking of n candidates; memory is wanted for a ranking alone
abbrev pub IsRankStop : ℕ → List ℕ → RankStop → Type 0
IsRankStop n ranks (OutOfRange place) = IsOutOfRangeAt n ranks place
IsRankStop n ranks (Repeated place) = IsRepeatedAt n ranks place
IsRankStop n ranks NoMemory = IsRanking n ranks
