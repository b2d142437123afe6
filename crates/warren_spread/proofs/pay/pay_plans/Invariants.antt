use Rattle.std.proofs.Common.{◌≡◌, ℕ, ◌+◌, ◌<◌, drop, length, slice_index}
use Rattle.frozen_plan.specs.Plan.{all_ballots}
use Rattle.warren_spread.specs.Paid.{paid}
use Rattle.warren_spread.proofs.pay.pay_plans.Given as goal

-- what the plans that are left are still to pay is what is missing
abbrev pub invariant-loop-plan : goal.invariant-loop-plan
invariant-loop-plan l = record {
  same_length : length l.sums ≡ length l.fn.sums;
  missing :
      (p : ℕ) → p < length l.fn.sums
      → slice_index l.sums p + paid l.prices l.vote (all_ballots (drop l.plan-index l.plans)) (p + 1)
      ≡ slice_index l.fn.sums p + paid l.prices l.vote (all_ballots l.plans) (p + 1);
}
