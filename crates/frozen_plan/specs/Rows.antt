-- The rows of a trie.
use Rattle.std.specs.Prelude.{◌≡◌, List}
use Rattle.ranking_trie.specs.BallotBag.{BallotBag}
use Rattle.frozen_plan.specs.declared.plan_row.PlanRow.{PlanRow}
use Rattle.frozen_plan.specs.Plan.{IsPlan, plan_ballots}

-- a plan whose ballots are those of the trie, in its order
pub record AreRowsOf (trie : BallotBag) (rows : List PlanRow) : Type 0 where
  pub plan : IsPlan trie.candidates rows
  pub ballots : plan_ballots rows ≡ trie.ballots
