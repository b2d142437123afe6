-- What a distribution at prices is seen as.
use Rattle.std.specs.Prelude.{ℕ, List}

-- the number of candidates, and the single ballots
pub record Seen : Type 0 where
  pub candidates : ℕ
  pub ballots : List (List ℕ)
