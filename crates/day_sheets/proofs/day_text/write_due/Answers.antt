use Rattle.day_sheets.proofs.DueTexts.{stopped_in_line, wrote_sheet}
use Rattle.day_sheets.proofs.day_text.write_due.Goals as goal

pub returns-in_err-write_sheet_line : goal.returns-in_err-write_sheet_line
returns-in_err-write_sheet_line g c =
    stopped_in_line g.K.Sink.written g.K.Sink.faults c.args.sink.now c.write_sheet_line.new.sink g.row.P
    c.args.at c.args.count c.from_residual.result c.from_residual.ensures.0 c.requires
    c.in_err-write_sheet_line.ensures

pub returns : goal.returns
returns g c =
    wrote_sheet g.K.Sink.written g.K.Sink.faults c.args.sink.now c.write_sheet_line.new.sink
    c.write_sheet.new.sink g.row.P c.args.at c.args.count c.write_sheet.result
    c.in_ok-write_sheet_line.ensures c.write_sheet.ensures
