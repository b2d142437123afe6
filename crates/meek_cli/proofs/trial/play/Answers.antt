use Rattle.std.proofs.Common.{length}
use Rattle.tool_edge.specs.Streams.{writing}
use Rattle.day_sheets.specs.Summary.{IsSummary}
use Rattle.ballot_count.proofs.Endings.{ended}
use Rattle.day_sheets.proofs.BatchNumbers.{have_numbers}
use Rattle.meek_cli.proofs.TrialEnding.{played_trial}
use Rattle.meek_cli.proofs.trial.play.Goals as goal

pub sum_up_last-wrote-requires-clause-numbers : goal.sum_up_last-wrote-requires-clause-numbers
sum_up_last-wrote-requires-clause-numbers g c κs within =
    have_numbers (length c.args.day.roll.names) c.args.day.scripts c.in-Ok.played.history c.requires.scripts
    c.in-Ok.ensures.history

pub returns : goal.returns
returns g c =
    let w = g.K.Sink.written in
    let f = g.K.Sink.faults in
    let terms = c.in-Ok.played.terms in
    let history = c.in-Ok.played.history in
    let wrote =
    ended w f c.args.sink.now c.sum_up_last-wrote.new.sink c.end_after.new.sink (IsSummary c.args.number terms history)
    c.sum_up_last-wrote.result c.end_after.result c.sum_up_last-wrote.ensures c.end_after.ensures in
    played_trial c.args.number c.args.day terms history c.end_after.result (writing w f c.args.sink.now c.end_after.new.sink)
    c.in-Ok.ensures.terms c.in-Ok.ensures.history c.in_default-end_after.not-NoMemory wrote
