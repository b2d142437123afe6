use Rattle.std.proofs.Common.{◌≡◌, ◌∙◌, ap, ◌<◌, ◌≤◌, List, length, get_or, subst}
use Rattle.meek_rule.specs.Row.{Row}
use Rattle.page_tree.specs.Print.{printed}
use Rattle.sheet_reader.specs.Values.{SheetList}
use Rattle.sheet_page.specs.Promised.{lot_at, lots_in}
use Rattle.sheet_page.specs.Values.{all_places}
use Rattle.sheet_page.proofs.Printing.{printed-each}
use Rattle.sheet_page.proofs.Pens.{nothing, item_more, items_all, renamed}
use Rattle.sheet_page.proofs.promised.write_each_lot.Goals as goal

pub loop-row-init : goal.loop-row-init
loop-row-init g c = nothing _ _

pub loop-row-preserved : goal.loop-row-preserved
loop-row-preserved g c =
    let v = c.args.values.now in
    let row = c.row-item.result in
    let rows = c.items-row-items.ensures ∙ ap (λ (w : SheetList). w.rows) c.values.view_is in
    item_more (λ row. printed (lots_in v row)) v.rows c.loop-row.row-index row
    (subst (λ (l : List Row). row ≡ get_or l c.loop-row.row-index row) rows c.row-item.is)
    (subst (λ (l : List Row). c.loop-row.row-index < length l) rows c.loop-row-test.true)
    c.loop-row.invariant (renamed (printed-each (lot_at v row) (all_places (length row.states))) c.write_lots_in.ensures)

pub returns : goal.returns
returns g c =
    let v = c.args.values.now in
    let rows = c.items-row-items.ensures ∙ ap (λ (w : SheetList). w.rows) c.values.view_is in
    items_all (λ row. printed (lots_in v row)) v.rows c.loop-row.row-index
    (subst (λ (l : List Row). length l ≤ c.loop-row.row-index) rows c.loop-row-test.false) c.loop-row.invariant
