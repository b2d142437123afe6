use Rattle.sheet_page.specs.Picture.{label_at, rectangle_at}
use Rattle.sheet_page.proofs.Printing.{printed-two}
use Rattle.sheet_page.specs.RoundEnds.{settled}
use Rattle.sheet_page.proofs.Pens.{later, renamed}
use Rattle.sheet_page.proofs.bars.write_bar.Goals as goal

pub returns : goal.returns
returns g c =
    renamed (printed-two (label_at g.row.P c.args.values.now (settled c.args.row.now c.args.behind.now) c.args.p)
    (rectangle_at c.args.full (settled c.args.row.now c.args.behind.now) c.args.p))
    (later c.write_label_at.ensures c.write_rectangle_at.ensures)
