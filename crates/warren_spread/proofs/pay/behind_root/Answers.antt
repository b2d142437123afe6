use Rattle.std.proofs.Common.{◌≡◌, List, drop, ap, sym, subst, ◌∙◌}
use Rattle.frozen_plan.specs.declared.plan_row.PlanRow.{PlanRow}
use Rattle.warren_spread.specs.Paid.{paid, row_ballots, AreSiblings}
use Rattle.warren_spread.proofs.SiblingLemmas.{siblings_of_plan, paid-plan}
use Rattle.warren_spread.proofs.pay.behind_root.Goals as goal

pub returns-clause-siblings : goal.returns-clause-siblings
returns-clause-siblings c =
    let plan = c.args.plan.now in
    let nodes : c.behind_first.result.now ≡ drop 1 plan.rows = c.behind_first.ensures ∙ ap (drop 1) c.rows.ensures.rows in
    subst (AreSiblings plan.candidates) (sym nodes) (siblings_of_plan plan.candidates plan.rows c.rows.ensures.plan)

pub returns-clause-ballots : goal.returns-clause-ballots
returns-clause-ballots c =
    λ rest q prices.
    let plan = c.args.plan.now in
    let nodes : c.behind_first.result.now ≡ drop 1 plan.rows = c.behind_first.ensures ∙ ap (drop 1) c.rows.ensures.rows in
    ap (λ (l : List PlanRow). paid prices rest (row_ballots l) q) nodes
    ∙ paid-plan plan.candidates plan.rows c.rows.ensures.plan rest q prices
