use Rattle.std.proofs.Common.{◌-◌, get_or, set, true, ap, ◌∙◌}
use Rattle.candidate_roll.proofs.MarksLemmas.{marks_with-nil, marks_with-more}
use Rattle.candidate_roll.proofs.roll.mark_listed.Goals as goal

pub loop-c-init : goal.loop-c-init
loop-c-init c = marks_with-nil c.args.marks.now

pub loop-c-preserved : goal.loop-c-preserved
loop-c-preserved c =
    let candidate = c.requires c.loop-c.c-index 0 c.loop-c-test.true in
    let place = get_or c.args.listed.now c.loop-c.c-index 0 - 1 in
    ap (λ marks. set marks place true) c.loop-c.invariant ∙ marks_with-more _ _ _ c.loop-c-test.true candidate.0 candidate.1
