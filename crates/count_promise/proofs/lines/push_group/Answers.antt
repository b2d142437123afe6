use Rattle.std.proofs.Common.{◌∙◌, sym}
use Rattle.count_promise.specs.Lots.{is_in}
use Rattle.count_promise.proofs.Places.{group_skip, group_step}
use Rattle.count_promise.proofs.lines.push_group.Goals.{then-is_in+in_ok-push_candidate, else-is_in}
use Rattle.count_promise.proofs.lines.push_group.Goals as goal

pub loop-p-preserved : goal.loop-p-preserved
loop-p-preserved c =
    let test = is_in c.args.row.now c.args.group in
    elim c.if-is_in.branch [
      | then-is_in+in_ok-push_candidate w ↦
          group_step test c.loop-p.p _ _ _ c.loop-p.invariant (sym c.is_in.ensures ∙ w.if-is_in.true)
          (w.text-is ∙ w.in_ok-push_candidate.ensures)
      | else-is_in w ↦
          group_skip test c.loop-p.p _ _ _ c.loop-p.invariant (sym c.is_in.ensures ∙ w.if-is_in.false) w.text-is
    ]
