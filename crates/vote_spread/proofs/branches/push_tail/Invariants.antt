use Rattle.std.proofs.Common.{◌≡◌, ◌++◌, map, take}
use Rattle.frozen_plan.specs.declared.plan_row.PlanRow.{PlanRow}
use Rattle.vote_spread.proofs.branches.push_tail.Given as goal

abbrev pub invariant-loop-row : goal.invariant-loop-row
invariant-loop-row l = l.tails.items ≡ l.fn.tails.items ++ map (λ (r : PlanRow). r.candidate) (take l.row-index l.rows)
