use Rattle.std.proofs.Common.{[], ◌∷◌}
use Rattle.std.specs.Prelude.{codes}
use Rattle.sheet_page.specs.RoundTable.{head_row}
use Rattle.sheet_page.proofs.Printing.{wrapped}
use Rattle.sheet_page.proofs.Pens.{later, renamed}
use Rattle.sheet_page.proofs.table.write_head.Goals as goal

pub returns : goal.returns
returns g c =
    let v = c.args.values.now in
    renamed (wrapped (codes "thead") [] (head_row c.args.names g.row.P v ∷ []))
    (later c.open.ensures
    (later c.write_head_row.ensures c.close.ensures))
