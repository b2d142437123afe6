use Rattle.std.proofs.Common.{length, arith, ap, sym, ◌∙◌}
use Rattle.std.proofs.lemmas.List.{get_or_read}
use Rattle.frozen_plan.specs.declared.plan_row.PlanRow.{PlanRow}
use Rattle.frozen_plan.specs.Plan.{PlanRows, plan_ballots}
use Rattle.frozen_plan.proofs.ReadLemmas.{length-plan_ballots}
use Rattle.frozen_plan.proofs.plan.Plan.total.Goals as goal

pub returns : goal.returns
returns c =
    let rows = c.self.inside.rows.items in
    let none : PlanRow = record { depth = 0; candidate = 0; ballots = 0; skip = 0 } in
    let root =
    get_or_read rows 0 c.index.result.now (omega (arith, ap length c.self.invariant.preorder))
    c.index.ensures none in
    ap (λ (row : PlanRow). row.ballots) root
    ∙ (sym (length-plan_ballots c.self.inside.candidates rows c.self.invariant)
    ∙ ap (λ (p : PlanRows). length (plan_ballots p.rows)) c.self.view_is)
