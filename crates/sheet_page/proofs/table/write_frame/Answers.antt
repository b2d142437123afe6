use Rattle.std.proofs.Common.{[], ◌∷◌}
use Rattle.std.specs.Prelude.{codes}
use Rattle.sheet_page.specs.RoundTable.{frame_attributes, rounds_table}
use Rattle.sheet_page.proofs.Printing.{wrapped}
use Rattle.sheet_page.proofs.Pens.{later, renamed}
use Rattle.sheet_page.proofs.table.write_frame.Goals as goal

pub returns : goal.returns
returns g c =
    let v = c.args.values.now in
    renamed (wrapped (codes "div") frame_attributes (rounds_table c.args.names g.row.P v ∷ []))
    (later c.write_frame_start.ensures
    (later c.write_table.ensures c.close.ensures))
