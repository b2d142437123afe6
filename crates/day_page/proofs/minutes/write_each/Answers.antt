use Rattle.day_page.specs.DayMinutes.{freeze_text}
use Rattle.sheet_page.proofs.Pens.{nothing, item_more, items_all}
use Rattle.day_page.proofs.minutes.write_each.Goals as goal

pub loop-sheet-init : goal.loop-sheet-init
loop-sheet-init g c = nothing _ _

pub loop-sheet-preserved : goal.loop-sheet-preserved
loop-sheet-preserved g c =
    item_more (freeze_text g.row.P c.args.calls) c.args.sheets.now c.loop-sheet.sheet-index
    c.sheet-item.result c.sheet-item.is
    c.loop-sheet-test.true c.loop-sheet.invariant c.write_freeze.ensures

pub returns : goal.returns
returns g c =
    items_all (freeze_text g.row.P c.args.calls) c.args.sheets.now c.loop-sheet.sheet-index
    c.loop-sheet-test.false c.loop-sheet.invariant
