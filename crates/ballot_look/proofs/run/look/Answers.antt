use Rattle.std.proofs.Common.{refl, map}
use Rattle.std.specs.Prelude.{Some, string_bytes}
use Rattle.tool_edge.specs.Streams.{reading, writing}
use Rattle.sheet_input.specs.declared.sheet_limit.TheConstants.{SHEET_LIMIT}
use Rattle.tool_edge.proofs.Running.{stopped, worked_on}
use Rattle.ballot_look.specs.Owed.{look_tool}
use Rattle.ballot_look.proofs.Owing.{sound}
use Rattle.ballot_look.proofs.run.look.Goals as goal

pub returns-in-Err : goal.returns-in-Err
returns-in-Err g c =
    stopped look_tool (Some SHEET_LIMIT) (λ asked. refl) (map string_bytes c.args.words.now)
    c.takes_nothing-asked.result c.in-Err.end
    (reading g.S.Source.left g.S.Source.faults c.args.source.now c.open.new.source)
    (writing g.K.Sink.written g.K.Sink.faults c.args.sink.now c.open.new.sink)
    (sound c.files_are_not_refused.ensures c.files_are_refused_once.ensures) c.takes_nothing-asked.ensures
    c.in-Err.ensures.stopped

pub returns : goal.returns
returns g c =
    worked_on look_tool g.K.Sink.written g.K.Sink.faults c.args.sink.now c.open.new.sink c.tell.new.sink
    (map string_bytes c.args.words.now) c.takes_nothing-asked.result (tt {0}) (tt {0})
    c.in-Ok.opened.input.items _ c.tell.result
    (reading g.S.Source.left g.S.Source.faults c.args.source.now c.open.new.source)
    (sound c.files_are_not_refused.ensures c.files_are_refused_once.ensures) c.takes_nothing-asked.ensures
    c.in-Ok.ensures.asked
    c.in-Ok.ensures.input c.in-Ok.ensures.untouched refl c.as_slice.ensures.value c.tell.ensures
