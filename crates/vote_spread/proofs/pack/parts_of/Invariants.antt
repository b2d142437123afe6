use Rattle.std.proofs.Common.{◌≡◌, map, take, drop}
use Rattle.std.specs.List.{All}
use Rattle.frozen_plan.specs.Plan.{PlanRows, IsPlan}
use Rattle.vote_spread.proofs.pack.parts_of.Given as goal

abbrev pub invariant-loop-plan : goal.invariant-loop-plan
invariant-loop-plan l = record {
  parts : l.parts.items ≡ map (λ (plan : PlanRows). drop 1 plan.rows) (take l.plan-index l.plans);
  plans : All (λ (plan : PlanRows). IsPlan plan.candidates plan.rows) (take l.plan-index l.plans);
}
