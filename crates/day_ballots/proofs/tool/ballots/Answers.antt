use Rattle.std.proofs.Common.{refl, map}
use Rattle.std.specs.Prelude.{Some, string_bytes}
use Rattle.tool_edge.specs.Streams.{reading, writing}
use Rattle.tool_edge.proofs.Running.{stopped, worked_on}
use Rattle.sheet_input.specs.declared.sheet_limit.TheConstants.{SHEET_LIMIT}
use Rattle.day_ballots.specs.Ballots.{exports_freezes}
use Rattle.day_ballots.proofs.Sound.{sound}
use Rattle.day_ballots.proofs.tool.ballots.Goals as goal

pub returns-in-Err : goal.returns-in-Err
returns-in-Err g c =
    stopped exports_freezes (Some SHEET_LIMIT) (λ asked. refl) (map string_bytes c.args.words.now)
    c.takes_line-asked.result c.in-Err.end
    (reading g.S.Source.left g.S.Source.faults c.args.source.now c.open.new.source)
    (writing g.K.Sink.written g.K.Sink.faults c.args.sink.now c.open.new.sink)
    (sound c.accepts_days.ensures c.refuses_by_the_rule.ensures c.words_have_one_number.ensures) c.takes_line-asked.ensures
    c.in-Err.ensures.stopped

pub returns : goal.returns
returns g c =
    worked_on exports_freezes g.K.Sink.written g.K.Sink.faults c.args.sink.now c.open.new.sink c.write_ballots.new.sink
    (map string_bytes c.args.words.now) c.takes_line-asked.result c.in-Ok.opened.asked c.in-Ok.opened.asked
    c.in-Ok.opened.input.items _ c.write_ballots.result
    (reading g.S.Source.left g.S.Source.faults c.args.source.now c.open.new.source)
    (sound c.accepts_days.ensures c.refuses_by_the_rule.ensures c.words_have_one_number.ensures) c.takes_line-asked.ensures
    c.in-Ok.ensures.asked
    c.in-Ok.ensures.input c.in-Ok.ensures.untouched refl c.as_slice.ensures.value c.write_ballots.ensures
