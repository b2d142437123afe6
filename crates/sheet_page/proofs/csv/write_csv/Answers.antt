use Rattle.std.proofs.Common.{rules, ◌≡◌, ◌∙◌, ap, ◌<◌, ◌≤◌, List, length, get_or, subst}
use Rattle.meek_rule.specs.Row.{Row}
use Rattle.sheet_reader.specs.Values.{SheetList}
use Rattle.sheet_page.proofs.CsvLemmas.{row_text, csv-parts}
use Rattle.sheet_page.proofs.Pens.{nothing, later, ended, item_more, items_all, renamed}
use Rattle.sheet_page.proofs.csv.write_csv.Goals as goal

pub loop-row-init : goal.loop-row-init
loop-row-init g c = nothing _ _

pub loop-row-preserved : goal.loop-row-preserved
loop-row-preserved g c =
    item_more (row_text g.row.P c.args.values.now) c.args.values.now.rows c.loop-row.row-index c.row-item.result
    (subst (λ (l : List Row). c.row-item.result ≡ get_or l c.loop-row.row-index c.row-item.result)
    (c.items-row-items.ensures ∙ ap (λ (v : SheetList). v.rows) c.values.view_is) c.row-item.is)
    (subst (λ (l : List Row). c.loop-row.row-index < length l)
    (c.items-row-items.ensures ∙ ap (λ (v : SheetList). v.rows) c.values.view_is) c.loop-row-test.true)
    c.loop-row.invariant c.write_row.ensures

pub returns : goal.returns
returns g c =
    let past =
    subst (λ (l : List Row). length l ≤ c.loop-row.row-index)
    (c.items-row-items.ensures ∙ ap (λ (v : SheetList). v.rows) c.values.view_is)
    c.loop-row-test.false in
    let rows =
    items_all (row_text g.row.P c.args.values.now) c.args.values.now.rows c.loop-row.row-index past
    c.loop-row.invariant in
    let all = renamed (csv-parts g.row.P c.args.values.now) (later c.write_head.ensures rows) in
    ended c.new-pen.ensures.before c.new-pen.ensures.well all (search rules) c.end.ensures.done
