use Rattle.std.proofs.Common.{inr, refl}
use Rattle.tool_edge.specs.declared.end.End.TheVariants.{Done}
use Rattle.tool_edge.proofs.Ending.{closed}
use Rattle.sheet_page.proofs.Owing.{wrote_text}
use Rattle.day_page.specs.Owed.{day_as}
use Rattle.day_page.proofs.tool.show_day.Goals as goal

pub returns : goal.returns
returns g c =
    let w = g.K.Sink.written in
    let f = g.K.Sink.faults in
    let text = day_as g.row.P c.args.format c.args.day.now in
    inr (
      Done,
      text,
      (refl, refl),
      closed w f c.args.sink.now c.write_day-wrote.new.sink c.close.new.sink text c.write_day-wrote.result
          c.close.result
          (wrote_text w f c.args.sink.now c.write_day-wrote.new.sink text c.write_day-wrote.result
          c.write_day-wrote.ensures) c.close.ensures,
    )
