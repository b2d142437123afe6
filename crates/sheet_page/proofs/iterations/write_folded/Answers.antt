use Rattle.std.proofs.Common.{◌≡◌, ◌∙◌, ◌+◌, ap, sym, subst, [], ◌∷◌}
use Rattle.std.specs.Prelude.{codes, Some, slice_get}
use Rattle.std.proofs.lemmas.Option.{get_or_from_slice_get}
use Rattle.meek_rule.specs.Row.{Row, blank}
use Rattle.page_tree.specs.Print.{printed}
use Rattle.sheet_reader.specs.Values.{SheetList}
use Rattle.sheet_minutes.specs.Rounds.{row_at}
use Rattle.sheet_page.specs.Iterations.{iteration_at, iterations, summary}
use Rattle.sheet_page.specs.Values.{all_places}
use Rattle.sheet_page.proofs.Printing.{wrapped, printed-each}
use Rattle.sheet_page.proofs.Pens.{later, renamed}
use Rattle.sheet_page.proofs.iterations.write_folded.Goals as goal

pub returns : goal.returns
returns g c =
    let v = c.args.values.now in
    let last = c.args.last in
    let at =
    subst (λ (w : SheetList). slice_get w.rows last ≡ Some c.get-row.result.now) c.values.view_is c.get-row.ensures in
    let row = get_or_from_slice_get v.rows last c.get-row.result.now (blank 0) at in
    let title = ap (λ (r : Row). printed (summary r.round)) (c.row.view_is ∙ sym row) in
    renamed (wrapped (codes "details") [] (summary (row_at v.rows last).round ∷ iterations g.row.P v last ∷ []))
    (later c.open.ensures (later (renamed title c.write_summary.ensures)
    (later (renamed (printed-each (iteration_at g.row.P v last) (all_places (last + 1))) c.write_iterations_of.ensures) c.close.ensures)))
