use Rattle.std.proofs.Common.{refl, map, subst}
use Rattle.std.specs.Prelude.{Some, string_bytes, Ok}
use Rattle.tool_edge.specs.Streams.{reading, writing}
use Rattle.tool_edge.specs.declared.opening.TheConstants.{FILE_LIMIT}
use Rattle.tool_edge.specs.Words.{IsAsked}
use Rattle.tool_edge.proofs.Running.{stopped, worked_on}
use Rattle.blt_import.specs.Owed.{import_tool}
use Rattle.import_words.specs.Asks.{Asks}
use Rattle.blt_import.proofs.Owing.{sound}
use Rattle.blt_import.proofs.WordLemmas.{asked_by}
use Rattle.blt_import.proofs.run.import.Goals as goal

pub returns-in-Err : goal.returns-in-Err
returns-in-Err g c =
    stopped import_tool (Some FILE_LIMIT) (λ asked. refl) (map string_bytes c.args.words.now)
    c.read_import_words-asked.result c.in-Err.end
    (reading g.S.Source.left g.S.Source.faults c.args.source.now c.open.new.source)
    (writing g.K.Sink.written g.K.Sink.faults c.args.sink.now c.open.new.sink)
    (sound c.words_ask_one_thing.ensures)
    (asked_by (map string_bytes c.args.words.now) c.read_import_words-asked.result c.read_import_words-asked.ensures.accepted
    c.read_import_words-asked.ensures.refused)
    c.in-Err.ensures.stopped

pub returns-in-Ok : goal.returns-in-Ok
returns-in-Ok g c =
    worked_on import_tool g.K.Sink.written g.K.Sink.faults c.args.sink.now c.open.new.sink c.import_input.new.sink
    (map string_bytes c.args.words.now) c.read_import_words-asked.result c.in-Ok.opened.asked _
    c.in-Ok.opened.input.items _ c.import_input.result
    (reading g.S.Source.left g.S.Source.faults c.args.source.now c.open.new.source)
    (sound c.words_ask_one_thing.ensures)
    (asked_by (map string_bytes c.args.words.now) c.read_import_words-asked.result c.read_import_words-asked.ensures.accepted
    c.read_import_words-asked.ensures.refused)
    c.in-Ok.ensures.asked
    c.in-Ok.ensures.input c.in-Ok.ensures.untouched refl c.as_slice.ensures.value c.import_input.ensures

pub import_input-requires-clause-enough : goal.import_input-requires-clause-enough
import_input-requires-clause-enough g c κs within =
    let taken : IsAsked Asks (map string_bytes c.args.words.now) (Ok c.in-Ok.opened.asked) =
    subst (IsAsked Asks (map string_bytes c.args.words.now)) c.in-Ok.ensures.asked
    (asked_by (map string_bytes c.args.words.now) c.read_import_words-asked.result c.read_import_words-asked.ensures.accepted
    c.read_import_words-asked.ensures.refused) in
    taken.says.enough
