use Rattle.std.proofs.Common.{length, [], ◌∷◌}
use Rattle.std.specs.Prelude.{codes}
use Rattle.sheet_page.specs.Trees.{each}
use Rattle.sheet_page.specs.Values.{all_places}
use Rattle.sheet_page.specs.RoundTable.{candidate_row, left_row, quota_row}
use Rattle.sheet_page.proofs.Printing.{wrapped, printed-each}
use Rattle.sheet_page.proofs.Pens.{later, renamed}
use Rattle.sheet_page.proofs.table.write_body.Goals as goal

pub returns : goal.returns
returns g c =
    let v = c.args.values.now in
    let all = all_places (length v.names) in
    renamed (wrapped (codes "tbody") [] (quota_row c.args.names g.row.P v ∷ left_row c.args.names g.row.P v
    ∷ each (candidate_row c.args.names g.row.P v) all ∷ []))
    (later c.open.ensures
    (later c.write_quota_row.ensures
    (later c.write_left_row.ensures
    (later (renamed (printed-each (candidate_row c.args.names g.row.P v) all) c.write_candidate_rows.ensures)
    c.close.ensures))))
