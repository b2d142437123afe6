use Rattle.std.proofs.Common.{map, refl}
use Rattle.std.specs.Prelude.{Some, string_bytes}
use Rattle.tool_edge.specs.Streams.{reading, writing}
use Rattle.tool_edge.specs.Tool.{IsSound}
use Rattle.tool_edge.specs.declared.opening.TheConstants.{FILE_LIMIT}
use Rattle.tool_edge.specs.Tools.{over_contests, HaveOneOrder, ContestsAreNotRefused, ContestsAreRefusedOnce}
use Rattle.tool_edge.proofs.Running.{stopped, worked_on}
use Rattle.warren_cli.specs.Owed.{OwesWarren}
use Rattle.warren_cli.proofs.run.warren.Goals as goal

sound : HaveOneOrder → ContestsAreNotRefused → ContestsAreRefusedOnce → IsSound (over_contests OwesWarren)
sound one either once =
    record { one = one; either = either; once = once; owed = λ lots input history bytes owes. (owes.0, owes.1) }

pub returns-in-Err : goal.returns-in-Err
returns-in-Err g c =
    stopped (over_contests OwesWarren) (Some FILE_LIMIT) (λ lots. refl) (map string_bytes c.args.words.now)
    c.takes_lots-asked.result c.in-Err.end
    (reading g.S.Source.left g.S.Source.faults c.args.source.now c.open.new.source)
    (writing g.K.Sink.written g.K.Sink.faults c.args.sink.now c.open.new.sink)
    (sound c.words_have_one_order.ensures c.contests_are_not_refused.ensures
    c.contests_are_refused_once.ensures) c.takes_lots-asked.ensures c.in-Err.ensures.stopped

pub returns : goal.returns
returns g c =
    worked_on (over_contests OwesWarren) g.K.Sink.written g.K.Sink.faults c.args.sink.now c.open.new.sink c.count.new.sink
    (map string_bytes c.args.words.now) c.takes_lots-asked.result c.in-Ok.opened.asked _
    c.in-Ok.opened.input.items _ c.count.result
    (reading g.S.Source.left g.S.Source.faults c.args.source.now c.open.new.source)
    (sound c.words_have_one_order.ensures c.contests_are_not_refused.ensures
    c.contests_are_refused_once.ensures) c.takes_lots-asked.ensures c.in-Ok.ensures.asked
    c.in-Ok.ensures.input c.in-Ok.ensures.untouched c.items.ensures c.as_slice.ensures.value c.count.ensures
