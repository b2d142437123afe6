use Rattle.std.proofs.Common.{subst}
use Rattle.lane_sheet.specs.Due.{CountDue, IsSheetDue, WritesSome}
use Rattle.lane_sheet.proofs.Sheets.{wrote_sheet}
use Rattle.lane_sheet.proofs.begun_count.BegunCount.write_sheet.Goals as goal

pub returns : goal.returns
returns g c =
    subst (λ (due : CountDue). WritesSome (IsSheetDue g.row.P due) g.K.Sink.written g.K.Sink.faults
    c.args.sink.now c.write_sheet.new.sink c.write_sheet.result) c.self.view_is
    (wrote_sheet g.K.Sink.written g.K.Sink.faults c.args.sink.now c.write_sheet.new.sink g.row.P
    c.self.inside.count c.write_sheet.result c.write_sheet.ensures.all
    c.write_sheet.ensures.front c.write_sheet.ensures.faults)
