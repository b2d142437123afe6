use Rattle.std.proofs.Common.{◌≡◌, ◌∙◌, ap, ◌<◌, ◌≤◌, List, length, get_or, subst}
use Rattle.meek_rule.specs.Row.{Row}
use Rattle.page_tree.specs.Print.{printed}
use Rattle.sheet_reader.specs.Values.{SheetList}
use Rattle.sheet_page.specs.Html.{elected_in, elected_item}
use Rattle.sheet_page.specs.Values.{all_places}
use Rattle.sheet_page.proofs.Printing.{printed-each}
use Rattle.sheet_page.proofs.Pens.{nothing, item_more, items_all, renamed}
use Rattle.sheet_page.proofs.elected.write_elected_rows.Goals as goal

pub loop-row-init : goal.loop-row-init
loop-row-init g c = nothing _ _

pub loop-row-preserved : goal.loop-row-preserved
loop-row-preserved g c =
    item_more (λ row. printed (elected_in c.args.values.now row)) c.args.values.now.rows c.loop-row.row-index
    c.row-item.result
    (subst (λ (l : List Row). c.row-item.result ≡ get_or l c.loop-row.row-index c.row-item.result)
    (c.items-row-items.ensures ∙ ap (λ (v : SheetList). v.rows) c.values.view_is) c.row-item.is)
    (subst (λ (l : List Row). c.loop-row.row-index < length l)
    (c.items-row-items.ensures ∙ ap (λ (v : SheetList). v.rows) c.values.view_is) c.loop-row-test.true)
    c.loop-row.invariant (renamed (printed-each (elected_item c.args.values.now c.row-item.result)
    (all_places (length c.args.values.now.names))) c.write_elected_in.ensures)

pub returns : goal.returns
returns g c =
    let past =
    subst (λ (l : List Row). length l ≤ c.loop-row.row-index)
    (c.items-row-items.ensures ∙ ap (λ (v : SheetList). v.rows) c.values.view_is)
    c.loop-row-test.false in
    items_all (λ row. printed (elected_in c.args.values.now row)) c.args.values.now.rows c.loop-row.row-index
    past c.loop-row.invariant
