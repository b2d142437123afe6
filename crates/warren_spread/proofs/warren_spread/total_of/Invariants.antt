use Rattle.std.proofs.Common.{◌≡◌, ◌+◌, drop, length}
use Rattle.frozen_plan.specs.Plan.{all_ballots}
use Rattle.warren_spread.proofs.warren_spread.total_of.Given as goal

abbrev pub invariant-loop-plan : goal.invariant-loop-plan
invariant-loop-plan l = l.total + length (all_ballots (drop l.plan-index l.plan-items)) ≡ length (all_ballots l.plan-items)
