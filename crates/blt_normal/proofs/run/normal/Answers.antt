use Rattle.std.proofs.Common.{refl, map}
use Rattle.std.specs.Prelude.{Some, string_bytes}
use Rattle.tool_edge.specs.Streams.{reading, writing}
use Rattle.tool_edge.specs.Tool.{IsSound}
use Rattle.tool_edge.specs.declared.opening.TheConstants.{FILE_LIMIT}
use Rattle.tool_edge.specs.Tools.{FilesAreNotRefused, FilesAreRefusedOnce}
use Rattle.tool_edge.proofs.Running.{stopped, worked_on}
use Rattle.blt_normal.specs.Owed.{normal_tool}
use Rattle.blt_normal.proofs.run.normal.Goals as goal

sound : FilesAreNotRefused → FilesAreRefusedOnce → IsSound normal_tool
sound either once = record {
  one = λ words asked other taken again. refl;
  either = λ asked. either;
  once = λ asked. once;
  owed = λ asked input history bytes owes. (owes.0, owes.1);
}

pub returns-in-Err : goal.returns-in-Err
returns-in-Err g c =
    stopped normal_tool (Some FILE_LIMIT) (λ asked. refl) (map string_bytes c.args.words.now)
    c.takes_nothing-asked.result c.in-Err.end
    (reading g.S.Source.left g.S.Source.faults c.args.source.now c.open.new.source)
    (writing g.K.Sink.written g.K.Sink.faults c.args.sink.now c.open.new.sink)
    (sound c.files_are_not_refused.ensures c.files_are_refused_once.ensures) c.takes_nothing-asked.ensures
    c.in-Err.ensures.stopped

pub returns : goal.returns
returns g c =
    worked_on normal_tool g.K.Sink.written g.K.Sink.faults c.args.sink.now c.open.new.sink c.rewrite.new.sink
    (map string_bytes c.args.words.now) c.takes_nothing-asked.result (tt {0}) (tt {0})
    c.in-Ok.opened.input.items _ c.rewrite.result
    (reading g.S.Source.left g.S.Source.faults c.args.source.now c.open.new.source)
    (sound c.files_are_not_refused.ensures c.files_are_refused_once.ensures) c.takes_nothing-asked.ensures
    c.in-Ok.ensures.asked
    c.in-Ok.ensures.input c.in-Ok.ensures.untouched refl c.as_slice.ensures.value c.rewrite.ensures
