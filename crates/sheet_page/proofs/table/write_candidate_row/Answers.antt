use Rattle.std.proofs.Common.{◌+◌, length, [], ◌∷◌}
use Rattle.std.specs.Prelude.{codes}
use Rattle.sheet_minutes.specs.declared.entry.Entry.TheVariants.{Candidate}
use Rattle.sheet_page.specs.Values.{name_at, all_places}
use Rattle.sheet_page.specs.RoundTable.{candidate_head, cell_at, cells}
use Rattle.sheet_page.proofs.Printing.{wrapped, printed-each}
use Rattle.sheet_page.proofs.Pens.{later, renamed}
use Rattle.sheet_page.proofs.table.write_candidate_row.Goals as goal

pub returns : goal.returns
returns g c =
    let v = c.args.values.now in
    let p = c.args.p in
    renamed (wrapped (codes "tr") [] (candidate_head (name_at v p) (p + 1) ∷ cells c.args.names g.row.P v (Candidate p) ∷ []))
    (later c.open.ensures
    (later c.write_candidate_at.ensures
    (later (renamed (printed-each (cell_at c.args.names g.row.P v (Candidate p)) (all_places (length v.rows))) c.write_cells.ensures) c.close.ensures)))
