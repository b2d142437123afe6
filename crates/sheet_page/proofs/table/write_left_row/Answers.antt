use Rattle.std.proofs.Common.{length, [], ◌∷◌}
use Rattle.std.specs.Prelude.{codes}
use Rattle.sheet_minutes.specs.declared.entry.Entry.TheVariants.{LeftOver}
use Rattle.sheet_page.specs.Values.{all_places}
use Rattle.sheet_page.specs.RoundTable.{cell_at, cells, line_head}
use Rattle.sheet_page.proofs.Printing.{wrapped, printed-each}
use Rattle.sheet_page.proofs.Pens.{later, renamed}
use Rattle.sheet_page.proofs.table.write_left_row.Goals as goal

pub returns : goal.returns
returns g c =
    let v = c.args.values.now in
    renamed (wrapped (codes "tr") [] (line_head (codes "On no candidate") ∷ cells c.args.names g.row.P v LeftOver ∷ []))
    (later c.open.ensures
    (later c.write_line_head.ensures
    (later (renamed (printed-each (cell_at c.args.names g.row.P v LeftOver) (all_places (length v.rows))) c.write_cells.ensures) c.close.ensures)))
