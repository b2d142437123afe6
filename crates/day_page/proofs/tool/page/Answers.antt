use Rattle.std.proofs.Common.{refl, map}
use Rattle.std.specs.Prelude.{Some}
use Rattle.std.specs.String.{string_bytes}
use Rattle.tool_edge.specs.Streams.{reading, writing}
use Rattle.sheet_input.specs.declared.sheet_limit.TheConstants.{SHEET_LIMIT}
use Rattle.tool_edge.proofs.Running.{stopped, worked_on}
use Rattle.day_page.specs.Owed.{pages}
use Rattle.day_page.proofs.Owing.{sound}
use Rattle.day_page.proofs.tool.page.Goals as goal

pub returns-in-Err : goal.returns-in-Err
returns-in-Err g c =
    stopped pages (Some SHEET_LIMIT) (λ format. refl) (map string_bytes c.args.words.now)
    c.takes_format-asked.result c.in-Err.end
    (reading g.S.Source.left g.S.Source.faults c.args.source.now c.open.new.source)
    (writing g.K.Sink.written g.K.Sink.faults c.args.sink.now c.open.new.sink)
    sound c.takes_format-asked.ensures c.in-Err.ensures.stopped

pub returns : goal.returns
returns g c =
    worked_on pages g.K.Sink.written g.K.Sink.faults c.args.sink.now c.open.new.sink c.show.new.sink
    (map string_bytes c.args.words.now) c.takes_format-asked.result c.in-Ok.opened.asked _
    c.in-Ok.opened.input.items _ c.show.result
    (reading g.S.Source.left g.S.Source.faults c.args.source.now c.open.new.source)
    sound c.takes_format-asked.ensures c.in-Ok.ensures.asked
    c.in-Ok.ensures.input c.in-Ok.ensures.untouched refl c.as_slice.ensures.value c.show.ensures
