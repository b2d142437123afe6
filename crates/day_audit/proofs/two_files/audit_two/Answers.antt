use Rattle.std.proofs.Common.{map, refl}
use Rattle.std.specs.String.{string_bytes}
use Rattle.tool_edge.specs.Streams.{reading, writing}
use Rattle.sheet_check.proofs.TwoRuns.{stopped_two, worked_on_two}
use Rattle.day_audit.specs.Audit.{audits_two}
use Rattle.day_audit.proofs.TwoAudits.{sound}
use Rattle.day_audit.proofs.two_files.audit_two.Goals as goal

pub returns-in-Err : goal.returns-in-Err
returns-in-Err g c =
    stopped_two audits_two (map string_bytes c.args.words.now) c.takes_nothing.result c.in-Err.end
    (reading g.T.Source.left g.T.Source.faults c.args.of_text.now c.open_two.new.of_text)
    (reading g.S.Source.left g.S.Source.faults c.args.of_file.now c.open_two.new.of_file)
    (writing g.K.Sink.written g.K.Sink.faults c.args.sink.now c.open_two.new.sink)
    (sound c.accepts_days.ensures c.refuses_by_the_rule.ensures) c.takes_nothing.ensures c.in-Err.ensures.stopped

pub returns-in-Ok : goal.returns-in-Ok
returns-in-Ok g c =
    worked_on_two audits_two g.K.Sink.written g.K.Sink.faults c.args.sink.now c.open_two.new.sink c.audit_inputs.new.sink
    (map string_bytes c.args.words.now) c.takes_nothing.result c.in-Ok.inputs.asked c.in-Ok.inputs.text.items
    c.in-Ok.inputs.file.items c.in-Ok.inputs.text.items c.in-Ok.inputs.file.items c.audit_inputs.result
    (reading g.T.Source.left g.T.Source.faults c.args.of_text.now c.open_two.new.of_text)
    (reading g.S.Source.left g.S.Source.faults c.args.of_file.now c.open_two.new.of_file)
    (sound c.accepts_days.ensures c.refuses_by_the_rule.ensures) c.takes_nothing.ensures
    c.in-Ok.ensures.asked c.in-Ok.ensures.text c.in-Ok.ensures.file c.in-Ok.ensures.untouched refl refl
    c.audit_inputs.ensures
