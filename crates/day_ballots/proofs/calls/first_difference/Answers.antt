use Rattle.std.proofs.Common.{Some, Result, sym, subst}
use Rattle.byte_edge.specs.declared.failed.Failed.{Failed}
use Rattle.sheet_check.proofs.Differences.{Tells}
use Rattle.day_ballots.proofs.CallLines.{compared_lines}
use Rattle.day_ballots.proofs.calls.first_difference.Goals as goal

pub returns-in-Ok : goal.returns-in-Ok
returns-in-Ok c =
    compared_lines c.args.text.now c.args.history.now c.new-sink.result c.write_entries.new.sink c.write_entries.result
    c.difference_from_whole.result c.new-sink.ensures c.write_entries.ensures.all c.write_entries.ensures.front
    c.write_entries.ensures.faults
    (subst (λ (r : Result (Unit {0}) Failed). Tells c.write_entries.new.sink r c.difference_from_whole.result)
    (sym c.in-Ok.is) c.difference_from_whole.ensures)

pub returns-in-Err : goal.returns-in-Err
returns-in-Err c =
    compared_lines c.args.text.now c.args.history.now c.new-sink.result c.write_entries.new.sink c.write_entries.result
    (Some c.difference_from_front.result) c.new-sink.ensures c.write_entries.ensures.all c.write_entries.ensures.front
    c.write_entries.ensures.faults
    (subst (λ (r : Result (Unit {0}) Failed). Tells c.write_entries.new.sink r (Some c.difference_from_front.result))
    (sym c.in-Err.is) c.difference_from_front.ensures)
