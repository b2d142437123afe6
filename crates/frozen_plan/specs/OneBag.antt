-- One bag of ballots has one plan.
use Rattle.std.specs.Prelude.{◌≡◌, IsPermutation}
use Rattle.frozen_plan.specs.Plan.{PlanRows, IsPlan, plan_ballots}

-- Where two plans stand for the same ballots, in whatever order these are listed, their rows are the same.
abbrev pub OneBagHasOnePlan : Type 0
OneBagHasOnePlan =
    (one other : PlanRows) → IsPlan one.candidates one.rows → IsPlan other.candidates other.rows
    → IsPermutation (plan_ballots one.rows) (plan_ballots other.rows) → one.rows ≡ other.rows
