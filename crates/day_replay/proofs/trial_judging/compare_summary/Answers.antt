use Rattle.std.proofs.Common.{Some, Result, sym, subst}
use Rattle.byte_edge.specs.declared.failed.Failed.{Failed}
use Rattle.day_sheets.specs.Summary.{IsSummary}
use Rattle.sheet_check.proofs.Differences.{Tells, compared}
use Rattle.day_replay.proofs.trial_judging.compare_summary.Goals as goal

pub returns-in-Ok : goal.returns-in-Ok
returns-in-Ok g c =
    compared (IsSummary c.args.summary.now.number c.args.terms.now c.args.summary.now.history.now) c.args.text.now c.new-sink.result
    c.sum_up.new.sink c.in_ok-sum_up.field-0 c.difference_from_whole.result c.new-sink.ensures c.in_ok-sum_up.ensures
    (subst (λ (r : Result (Unit {0}) Failed). Tells c.sum_up.new.sink r c.difference_from_whole.result)
    (sym c.in-Ok.is) c.difference_from_whole.ensures)

pub returns-in-Err : goal.returns-in-Err
returns-in-Err g c =
    compared (IsSummary c.args.summary.now.number c.args.terms.now c.args.summary.now.history.now) c.args.text.now c.new-sink.result
    c.sum_up.new.sink c.in_ok-sum_up.field-0 (Some c.difference_from_front.result) c.new-sink.ensures c.in_ok-sum_up.ensures
    (subst (λ (r : Result (Unit {0}) Failed). Tells c.sum_up.new.sink r (Some c.difference_from_front.result))
    (sym c.in-Err.is) c.difference_from_front.ensures)
