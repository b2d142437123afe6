use Rattle.std.proofs.Common.{refl, map}
use Rattle.std.specs.Prelude.{Some}
use Rattle.std.specs.String.{string_bytes}
use Rattle.tool_edge.specs.Streams.{reading, writing}
use Rattle.tool_edge.specs.declared.opening.TheConstants.{DAY_LIMIT}
use Rattle.tool_edge.proofs.Running.{stopped, worked_on}
use Rattle.tally_cli.specs.Owed.{over_days}
use Rattle.tally_cli.proofs.Sound.{sound}
use Rattle.tally_cli.proofs.tool.tally.Goals as goal

pub returns-in-Err : goal.returns-in-Err
returns-in-Err g c =
    stopped over_days (Some DAY_LIMIT) (λ asked. refl) (map string_bytes c.args.words.now)
    c.takes_nothing-asked.result c.in-Err.end
    (reading g.S.Source.left g.S.Source.faults c.args.source.now c.open.new.source)
    (writing g.K.Sink.written g.K.Sink.faults c.args.sink.now c.open.new.sink)
    (sound c.accepts_days.ensures c.refuses_by_the_rule.ensures) c.takes_nothing-asked.ensures c.in-Err.ensures.stopped

pub returns : goal.returns
returns g c =
    worked_on over_days g.K.Sink.written g.K.Sink.faults c.args.sink.now c.open.new.sink c.tally_input.new.sink
    (map string_bytes c.args.words.now) c.takes_nothing-asked.result c.in-Ok.opened.asked _
    c.in-Ok.opened.input.items _ c.tally_input.result
    (reading g.S.Source.left g.S.Source.faults c.args.source.now c.open.new.source)
    (sound c.accepts_days.ensures c.refuses_by_the_rule.ensures) c.takes_nothing-asked.ensures c.in-Ok.ensures.asked
    c.in-Ok.ensures.input c.in-Ok.ensures.untouched refl c.as_slice.ensures.value c.tally_input.ensures
