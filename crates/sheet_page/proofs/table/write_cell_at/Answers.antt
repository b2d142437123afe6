use Rattle.std.proofs.Common.{◌∙◌, ap, sym, Bool, List}
use Rattle.std.specs.Prelude.{if◌then◌else◌}
use Rattle.meek_rule.specs.Row.{Row}
use Rattle.page_tree.specs.Print.{printed}
use Rattle.page_tree.specs.Trees.{Nothing}
use Rattle.sheet_reader.specs.Values.{SheetList}
use Rattle.sheet_minutes.specs.Rounds.{ends_round}
use Rattle.sheet_page.specs.RoundTable.{round_cell}
use Rattle.sheet_page.proofs.Pens.{nothing, renamed}
use Rattle.sheet_page.proofs.table.write_cell_at.Goals as goal

pub returns-then-ends_round : goal.returns-then-ends_round
returns-then-ends_round g c =
    let v = c.args.values.now in
    let rows = c.items.ensures ∙ ap (λ (w : SheetList). w.rows) c.values.view_is in
    let ends = ap (λ (l : List Row). ends_round l c.args.i) (sym rows) ∙ sym c.ends_round.ensures ∙ c.if-ends_round.true in
    renamed (sym (ap (λ (b : Bool). printed (if b then round_cell c.args.names g.row.P v c.args.entry c.args.i else Nothing)) ends))
    c.write_round_cell.ensures

pub returns-else-ends_round : goal.returns-else-ends_round
returns-else-ends_round g c =
    let v = c.args.values.now in
    let rows = c.items.ensures ∙ ap (λ (w : SheetList). w.rows) c.values.view_is in
    let ends = ap (λ (l : List Row). ends_round l c.args.i) (sym rows) ∙ sym c.ends_round.ensures ∙ c.if-ends_round.false in
    renamed (sym (ap (λ (b : Bool). printed (if b then round_cell c.args.names g.row.P v c.args.entry c.args.i else Nothing)) ends)) (nothing _ _)
