use Rattle.std.proofs.Common.{map, refl}
use Rattle.std.specs.String.{string_bytes}
use Rattle.tool_edge.specs.Streams.{reading, writing}
use Rattle.sheet_check.specs.Audit.{audits_two}
use Rattle.sheet_check.proofs.TwoAudits.{sound}
use Rattle.sheet_check.proofs.TwoRuns.{stopped_two, worked_on_two}
use Rattle.sheet_check.proofs.Words.{asked_by}
use Rattle.sheet_check.proofs.two_files.check_two.Goals as goal

pub returns-in-Err : goal.returns-in-Err
returns-in-Err g c =
    let words = map string_bytes c.args.words.now in
    let asked = asked_by words c.read_check_words-asked.result c.read_check_words-asked.ensures.accepted
    c.read_check_words-asked.ensures.refused in
    stopped_two audits_two words c.read_check_words-asked.result c.in-Err.end
    (reading g.T.Source.left g.T.Source.faults c.args.of_sheet.now c.open_two.new.of_text)
    (reading g.S.Source.left g.S.Source.faults c.args.of_file.now c.open_two.new.of_file)
    (writing g.K.Sink.written g.K.Sink.faults c.args.sink.now c.open_two.new.sink)
    (sound c.words_ask_one_thing.ensures c.contests_are_not_refused.ensures c.contests_are_refused_once.ensures)
    asked c.in-Err.ensures.stopped

pub returns-in-Ok : goal.returns-in-Ok
returns-in-Ok g c =
    let words = map string_bytes c.args.words.now in
    let asked = asked_by words c.read_check_words-asked.result c.read_check_words-asked.ensures.accepted
    c.read_check_words-asked.ensures.refused in
    worked_on_two audits_two g.K.Sink.written g.K.Sink.faults c.args.sink.now c.open_two.new.sink c.check_inputs.new.sink
    words c.read_check_words-asked.result c.in-Ok.inputs.asked c.in-Ok.inputs.text.items c.in-Ok.inputs.file.items
    c.in-Ok.inputs.text.items c.in-Ok.inputs.file.items c.check_inputs.result
    (reading g.T.Source.left g.T.Source.faults c.args.of_sheet.now c.open_two.new.of_text)
    (reading g.S.Source.left g.S.Source.faults c.args.of_file.now c.open_two.new.of_file)
    (sound c.words_ask_one_thing.ensures c.contests_are_not_refused.ensures c.contests_are_refused_once.ensures)
    asked c.in-Ok.ensures.asked c.in-Ok.ensures.text c.in-Ok.ensures.file c.in-Ok.ensures.untouched refl refl
    c.check_inputs.ensures
