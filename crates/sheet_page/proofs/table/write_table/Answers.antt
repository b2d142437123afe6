use Rattle.std.proofs.Common.{[], ◌∷◌}
use Rattle.std.specs.Prelude.{codes}
use Rattle.sheet_page.specs.RoundTable.{caption, table_body, table_head}
use Rattle.sheet_page.proofs.Printing.{wrapped}
use Rattle.sheet_page.proofs.Pens.{later, renamed}
use Rattle.sheet_page.proofs.table.write_table.Goals as goal

pub returns : goal.returns
returns g c =
    let v = c.args.values.now in
    renamed (wrapped (codes "table") [] (caption ∷ table_head c.args.names g.row.P v ∷ table_body c.args.names g.row.P v ∷ []))
    (later c.open.ensures
    (later c.write_caption.ensures
    (later c.write_head.ensures
    (later c.write_body.ensures c.close.ensures))))
