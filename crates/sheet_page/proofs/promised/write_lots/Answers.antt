use Rattle.std.proofs.Common.{◌∙◌, ap, sym, Bool, List}
use Rattle.std.specs.Prelude.{if◌then◌else◌}
use Rattle.std.specs.List.{list_any}
use Rattle.meek_rule.specs.Row.{Row}
use Rattle.page_tree.specs.Print.{printed}
use Rattle.sheet_reader.specs.Values.{SheetList}
use Rattle.count_promise.specs.Lots.{is_by_lot}
use Rattle.sheet_page.specs.Promised.{lots_in, no_lot_item}
use Rattle.sheet_page.specs.Trees.{each}
use Rattle.sheet_page.proofs.Printing.{leaf, printed-each}
use Rattle.sheet_page.proofs.Pens.{renamed}
use Rattle.sheet_page.proofs.promised.write_lots.Goals as goal

pub returns-then-decides_any : goal.returns-then-decides_any
returns-then-decides_any g c =
    let v = c.args.values.now in
    let rows = c.items.ensures ∙ ap (λ (w : SheetList). w.rows) c.values.view_is in
    let any = sym c.if-decides_any.true ∙ (c.decides_any.ensures ∙ ap (λ (l : List Row). list_any is_by_lot l) rows) in
    renamed (printed-each (lots_in v) v.rows
    ∙ ap (λ (b : Bool). printed (if b then each (lots_in v) v.rows else no_lot_item)) any) c.write_each_lot.ensures

pub returns : goal.returns
returns g c =
    let v = c.args.values.now in
    let rows = c.items.ensures ∙ ap (λ (w : SheetList). w.rows) c.values.view_is in
    let none = sym c.if-decides_any.false ∙ (c.decides_any.ensures ∙ ap (λ (l : List Row). list_any is_by_lot l) rows) in
    renamed (leaf no_lot_item
    ∙ ap (λ (b : Bool). printed (if b then each (lots_in v) v.rows else no_lot_item)) none) c.write.ensures
