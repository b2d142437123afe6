use Rattle.tool_edge.specs.Streams.{writing}
use Rattle.day_lines.specs.DayText.{IsDayText}
use Rattle.meek_cli.proofs.DayEnding.{played}
use Rattle.ballot_count.proofs.Endings.{ended}
use Rattle.meek_cli.proofs.day.play.Goals as goal

pub returns : goal.returns
returns g c =
    let w = g.K.Sink.written in
    let f = g.K.Sink.faults in
    let terms = c.in-Ok.played.terms in
    let history = c.in-Ok.played.history in
    let wrote =
    ended w f c.args.sink.now c.count_at_places-wrote.new.sink c.end_after.new.sink (IsDayText terms history)
    c.count_at_places-wrote.result c.end_after.result c.count_at_places-wrote.ensures c.end_after.ensures in
    played c.args.day terms history c.end_after.result (writing w f c.args.sink.now c.end_after.new.sink)
    c.in-Ok.ensures.terms c.in-Ok.ensures.history c.in_default-end_after.not-NoMemory wrote
