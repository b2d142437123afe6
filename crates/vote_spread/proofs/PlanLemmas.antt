-- The rows of plans.
use Rattle.std.proofs.Common.{◌≡◌, ℕ, ◌+◌, ◌-◌, List, [], ◌∷◌, length, drop, sum_by, arith, refl, ap, sym, subst}
use Rattle.std.proofs.lemmas.List.{length-append}
use Rattle.std.proofs.lemmas.List.Sums.{sum_by-cons}
use Rattle.frozen_plan.specs.declared.plan_row.PlanRow.{PlanRow}
use Rattle.frozen_plan.specs.Forest.{through, rows_of}
use Rattle.frozen_plan.specs.Plan.{PlanRows, forest_of, ballot_count, plan_ballots, all_ballots, IsPlan}
use Rattle.frozen_plan.proofs.TrieLemmas.{grown_more}
use Rattle.vote_spread.specs.Packed.{AreRows}
use Rattle.vote_spread.proofs.RowLemmas.{rows_of_forest}

-- the rows after the root of a plan
behind_root : (n : ℕ) (rows : List PlanRow) → IsPlan n rows → drop 1 rows ≡ rows_of 1 (forest_of rows)
behind_root n rows plan = ap (drop 1) plan.preorder

pub rows_of_plan : (n : ℕ) (rows : List PlanRow) → IsPlan n rows → AreRows 250 1 (drop 1 rows)
rows_of_plan n rows plan =
    let f = forest_of rows in
    let all : ballot_count rows ≡ (ballot_count rows - through f) + through f = ap ballot_count plan.preorder in
    subst (AreRows 250 1) (sym (behind_root n rows plan))
    (rows_of_forest 250 1 0 f (grown_more n 250 0 1 f plan.few_candidates plan.grown) (omega (arith, plan.few)))

-- how many ballots plans have
pub length-all_ballots :
    (plans : List PlanRows)
    → length (all_ballots plans) ≡ sum_by (λ (plan : PlanRows). length (plan_ballots plan.rows)) plans
length-all_ballots [] = refl
length-all_ballots (plan ∷ plans) =
    omega (
      arith,
      length-append (plan_ballots plan.rows) (all_ballots plans),
      length-all_ballots plans,
      sum_by-cons (λ (p : PlanRows). length (plan_ballots p.rows)) plan plans,
    )
