use Rattle.std.proofs.Common.{inr}
use Rattle.tool_edge.specs.declared.end.End.TheVariants.{Done}
use Rattle.tool_edge.proofs.Ending.{closed}
use Rattle.day_ballots.proofs.Owing.{file_of, wrote_text}
use Rattle.day_ballots.proofs.writing.write_frozen.Goals as goal

-- the ballots of the plans are those that stood
pub returns : goal.returns
returns g c =
    let text = c.write_blt-wrote.ensures in
    let w = g.K.Sink.written in
    let f = g.K.Sink.faults in
    inr (
      Done,
      text.text,
      file_of c.args.roll.now c.in-Ok.roll c.args.frozen c.struck.result.now c.into_plans.result c.in-Ok-begin.export
          text.text
          c.in-Ok.ensures c.struck.ensures.struck c.into_plans.ensures.plans c.in-Ok-begin.ensures.roll
          c.in-Ok-begin.ensures.ballots text.is,
      closed w f c.args.sink.now c.write_blt-wrote.new.sink c.close.new.sink text.text
          c.write_blt-wrote.result c.close.result
          (wrote_text w f c.args.sink.now c.write_blt-wrote.new.sink text.text c.write_blt-wrote.result text.writes)
          c.close.ensures,
    )
