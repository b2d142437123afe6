use Rattle.std.proofs.Common.{ap, ◌∙◌, inr}
use Rattle.meek_rule.specs.Situation.{Situation}
use Rattle.tool_edge.specs.declared.end.End.TheVariants.{Done}
use Rattle.tool_edge.proofs.Ending.{closed}
use Rattle.warren_cli.proofs.FileLemmas.{IsCountOf, wrote_sheet}
use Rattle.warren_cli.proofs.counting.write_count.Goals as goal

pub returns : goal.returns
returns g c =
    let of : IsCountOf c.args.roll.now c.args.lots.now c.args.spread.ballots c.in-Ok.count = record {
      omega_is = ap (λ (now : Situation). now.omega) c.in-Ok.ensures.opens ∙ c.usual-omega.ensures;
      ballots_are = c.in-Ok.ensures.ballots;
      roll_is = c.in-Ok.ensures.roll;
      lots_are = c.in-Ok.ensures.lots;
    } in
    let wrote =
    wrote_sheet g.K.Sink.written g.K.Sink.faults c.args.sink.now c.write_warren-wrote.new.sink
    c.args.roll.now c.args.lots.now c.args.spread.ballots c.in-Ok.count c.write_warren-wrote.result of
    c.write_warren-wrote.ensures.all c.write_warren-wrote.ensures.front
    c.write_warren-wrote.ensures.faults in
    inr (
      Done,
      wrote.0,
      wrote.1,
      closed g.K.Sink.written g.K.Sink.faults c.args.sink.now c.write_warren-wrote.new.sink c.close.new.sink
          wrote.0 c.write_warren-wrote.result c.close.result wrote.2 c.close.ensures,
    )
