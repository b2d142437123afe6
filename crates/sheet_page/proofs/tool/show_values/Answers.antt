use Rattle.tool_edge.proofs.Ending.{closed}
use Rattle.sheet_page.specs.Owed.{shown_as}
use Rattle.sheet_page.proofs.Owing.{wrote_text}
use Rattle.sheet_page.proofs.tool.show_values.Goals as goal

pub returns : goal.returns
returns g c =
    let w = g.K.Sink.written in
    let f = g.K.Sink.faults in
    let text = shown_as g.row.P c.args.format c.args.values.now in
    closed w f c.args.sink.now c.write_values-wrote.new.sink c.close.new.sink text c.write_values-wrote.result c.close.result
    (wrote_text w f c.args.sink.now c.write_values-wrote.new.sink text c.write_values-wrote.result
    c.write_values-wrote.ensures) c.close.ensures
