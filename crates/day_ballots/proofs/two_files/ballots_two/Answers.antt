use Rattle.std.proofs.Common.{map, refl}
use Rattle.std.specs.String.{string_bytes}
use Rattle.tool_edge.specs.Streams.{reading, writing}
use Rattle.sheet_check.proofs.TwoRuns.{stopped_two, worked_on_two}
use Rattle.day_ballots.specs.Ballots.{exports_two}
use Rattle.day_ballots.proofs.TwoOwing.{sound}
use Rattle.day_ballots.proofs.two_files.ballots_two.Goals as goal

pub returns-in-Err : goal.returns-in-Err
returns-in-Err g c =
    stopped_two exports_two (map string_bytes c.args.words.now) c.takes_line.result c.in-Err.end
    (reading g.T.Source.left g.T.Source.faults c.args.of_text.now c.open_two.new.of_text)
    (reading g.S.Source.left g.S.Source.faults c.args.of_file.now c.open_two.new.of_file)
    (writing g.K.Sink.written g.K.Sink.faults c.args.sink.now c.open_two.new.sink)
    (sound c.accepts_days.ensures c.refuses_by_the_rule.ensures c.words_have_one_number.ensures) c.takes_line.ensures
    c.in-Err.ensures.stopped

pub returns-in-Ok : goal.returns-in-Ok
returns-in-Ok g c =
    worked_on_two exports_two g.K.Sink.written g.K.Sink.faults c.args.sink.now c.open_two.new.sink c.write_inputs.new.sink
    (map string_bytes c.args.words.now) c.takes_line.result c.in-Ok.inputs.asked c.in-Ok.inputs.text.items
    c.in-Ok.inputs.file.items c.in-Ok.inputs.text.items c.in-Ok.inputs.file.items c.write_inputs.result
    (reading g.T.Source.left g.T.Source.faults c.args.of_text.now c.open_two.new.of_text)
    (reading g.S.Source.left g.S.Source.faults c.args.of_file.now c.open_two.new.of_file)
    (sound c.accepts_days.ensures c.refuses_by_the_rule.ensures c.words_have_one_number.ensures) c.takes_line.ensures
    c.in-Ok.ensures.asked c.in-Ok.ensures.text c.in-Ok.ensures.file c.in-Ok.ensures.untouched refl refl
    c.write_inputs.ensures
