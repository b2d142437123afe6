use Rattle.std.proofs.Common.{ℕ, ◌<◌, List, slice_index_or}
use Rattle.frozen_plan.specs.declared.plan_row.PlanRow.{PlanRow}
use Rattle.vote_spread.specs.Merged.{GoesOnLike}
use Rattle.vote_spread.proofs.alike.go_on_alike.Given as goal

abbrev pub invariant-loop-node : goal.invariant-loop-node
invariant-loop-node l =
    (d e : List PlanRow) (k : ℕ) → k < l.node-index
    → GoesOnLike (slice_index_or l.nodes 0 d) (slice_index_or l.nodes k e)
