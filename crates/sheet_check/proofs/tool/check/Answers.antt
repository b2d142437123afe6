use Rattle.std.proofs.Common.{map, refl}
use Rattle.std.specs.Prelude.{Some}
use Rattle.std.specs.String.{string_bytes}
use Rattle.tool_edge.specs.Streams.{reading, writing}
use Rattle.tool_edge.proofs.Running.{stopped, worked_on}
use Rattle.sheet_check.specs.Audit.{audits}
use Rattle.sheet_input.specs.declared.sheet_limit.TheConstants.{SHEET_LIMIT}
use Rattle.sheet_check.proofs.Audits.{sound}
use Rattle.sheet_check.proofs.Words.{asked_by}
use Rattle.sheet_check.proofs.tool.check.Goals as goal

pub returns-in-Err : goal.returns-in-Err
returns-in-Err g c =
    let words = map string_bytes c.args.words.now in
    let asked = asked_by words c.read_check_words-asked.result c.read_check_words-asked.ensures.accepted
    c.read_check_words-asked.ensures.refused in
    stopped audits (Some SHEET_LIMIT) (λ asked. refl) words c.read_check_words-asked.result c.in-Err.end
    (reading g.S.Source.left g.S.Source.faults c.args.source.now c.open.new.source)
    (writing g.K.Sink.written g.K.Sink.faults c.args.sink.now c.open.new.sink)
    (sound c.words_ask_one_thing.ensures c.files_are_not_refused.ensures c.contests_are_not_refused.ensures
    c.contests_are_refused_once.ensures) asked c.in-Err.ensures.stopped

pub returns : goal.returns
returns g c =
    let words = map string_bytes c.args.words.now in
    let asked = asked_by words c.read_check_words-asked.result c.read_check_words-asked.ensures.accepted
    c.read_check_words-asked.ensures.refused in
    worked_on audits g.K.Sink.written g.K.Sink.faults c.args.sink.now c.open.new.sink c.check_input.new.sink
    words c.read_check_words-asked.result c.in-Ok.opened.asked c.in-Ok.opened.asked
    c.in-Ok.opened.input.items _ c.check_input.result
    (reading g.S.Source.left g.S.Source.faults c.args.source.now c.open.new.source)
    (sound c.words_ask_one_thing.ensures c.files_are_not_refused.ensures c.contests_are_not_refused.ensures
    c.contests_are_refused_once.ensures) asked c.in-Ok.ensures.asked
    c.in-Ok.ensures.input c.in-Ok.ensures.untouched refl refl c.check_input.ensures
