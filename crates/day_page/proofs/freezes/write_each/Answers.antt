use Rattle.page_tree.specs.Print.{printed}
use Rattle.day_page.specs.Freezes.{freeze_part}
use Rattle.sheet_page.proofs.Pens.{nothing, item_more, items_all}
use Rattle.day_page.proofs.freezes.write_each.Goals as goal

pub loop-sheet-init : goal.loop-sheet-init
loop-sheet-init g c = nothing _ _

pub loop-sheet-preserved : goal.loop-sheet-preserved
loop-sheet-preserved g c =
    item_more (λ s. printed (freeze_part g.row.P c.args.calls s)) c.args.sheets.now c.loop-sheet.sheet-index
    c.sheet-item.result c.sheet-item.is c.loop-sheet-test.true c.loop-sheet.invariant c.write_part.ensures

pub returns : goal.returns
returns g c =
    items_all (λ s. printed (freeze_part g.row.P c.args.calls s)) c.args.sheets.now c.loop-sheet.sheet-index
    c.loop-sheet-test.false c.loop-sheet.invariant
