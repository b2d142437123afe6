-- What an export is seen as.
use Rattle.std.specs.Prelude.{ℕ, List}
use Rattle.candidate_roll.specs.Roll.{RollList}

-- the roll, and the ballots that are still to be written
pub record Exported : Type 0 where
  pub roll : RollList
  pub ballots : List (List ℕ)
