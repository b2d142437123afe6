use Rattle.std.proofs.Common.{◌≡◌, length, sum_by, take}
use Rattle.frozen_plan.specs.Plan.{PlanRows, plan_ballots}
use Rattle.vote_spread.proofs.lanes.total_of.Given as goal

abbrev pub invariant-loop-plan : goal.invariant-loop-plan
invariant-loop-plan l =
    l.total ≡ sum_by (λ (plan : PlanRows). length (plan_ballots plan.rows)) (take l.plan-index l.plan-items)
