use Rattle.std.proofs.Common.{sym, subst}
use Rattle.piece_text.specs.Writing.{Writes}
use Rattle.sheet_page.specs.declared.format.Format.{Format}
use Rattle.day_page.specs.Owed.{day_as}
use Rattle.day_page.proofs.tool.write_day.Goals as goal

pub returns-in-Html : goal.returns-in-Html
returns-in-Html g c =
    subst (λ (f : Format). Writes g.K.Sink.written g.K.Sink.faults c.args.sink.now c.write_html.new.sink
    (day_as g.row.P f c.args.day.now) c.write_html.result) (sym c.in-Html.is) c.write_html.ensures

pub returns-in-Csv : goal.returns-in-Csv
returns-in-Csv g c =
    subst (λ (f : Format). Writes g.K.Sink.written g.K.Sink.faults c.args.sink.now c.write_day_csv.new.sink
    (day_as g.row.P f c.args.day.now) c.write_day_csv.result) (sym c.in-Csv.is) c.write_day_csv.ensures

pub returns-in-MarkedCsv : goal.returns-in-MarkedCsv
returns-in-MarkedCsv g c =
    subst (λ (f : Format). Writes g.K.Sink.written g.K.Sink.faults c.args.sink.now c.write_marked_day_csv.new.sink
    (day_as g.row.P f c.args.day.now) c.write_marked_day_csv.result) (sym c.in-MarkedCsv.is) c.write_marked_day_csv.ensures
