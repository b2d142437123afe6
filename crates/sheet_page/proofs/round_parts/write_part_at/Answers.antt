use Rattle.std.proofs.Common.{◌∙◌, ap, sym, Bool, List}
use Rattle.std.specs.Prelude.{if◌then◌else◌}
use Rattle.meek_rule.specs.Row.{Row}
use Rattle.page_tree.specs.Print.{printed}
use Rattle.page_tree.specs.Trees.{Nothing}
use Rattle.sheet_reader.specs.Values.{SheetList}
use Rattle.sheet_minutes.specs.Rounds.{ends_round}
use Rattle.sheet_page.specs.Html.{round_part}
use Rattle.sheet_page.proofs.Pens.{renamed}
use Rattle.sheet_page.proofs.round_parts.write_part_at.Goals as goal

pub returns-then-ends_round : goal.returns-then-ends_round
returns-then-ends_round g c =
    let v = c.args.values.now in
    let i = c.args.i in
    let rows = c.items.ensures ∙ ap (λ (w : SheetList). w.rows) c.values.view_is in
    let ends = ap (λ (l : List Row). ends_round l i) (sym rows) ∙ sym c.ends_round.ensures ∙ c.if-ends_round.true in
    renamed (sym (ap (λ (b : Bool). printed (if b then round_part c.args.names g.row.P v c.args.full i else Nothing)) ends))
    c.write_round_part.ensures
