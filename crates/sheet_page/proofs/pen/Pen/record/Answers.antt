use Rattle.csv_text.specs.Csv.{behind_comma}
use Rattle.sheet_page.specs.Cells.{cell_text}
use Rattle.sheet_page.proofs.CsvLemmas.{record-parts}
use Rattle.sheet_page.proofs.Pens.{nothing, later, item_more, items_all, renamed}
use Rattle.sheet_page.proofs.pen.Pen.record.Goals as goal

pub loop-other-init : goal.loop-other-init
loop-other-init g c = nothing _ _

pub loop-other-preserved : goal.loop-other-preserved
loop-other-preserved g c =
    item_more (λ cell. behind_comma (cell_text g.row.P cell)) c.args.others.now c.loop-other.other-index
    c.other-item.result c.other-item.is c.loop-other-test.true
    c.loop-other.invariant c.behind_comma.ensures

pub returns : goal.returns
returns g c =
    renamed (record-parts g.row.P (cell_text g.row.P c.args.first.now) c.args.others.now)
    (later c.field.ensures (later
    (items_all (λ cell. behind_comma (cell_text g.row.P cell)) c.args.others.now c.loop-other.other-index
    c.loop-other-test.false c.loop-other.invariant)
    c.piece.ensures))
