use Rattle.std.proofs.Common.{[], ◌∷◌}
use Rattle.std.specs.Prelude.{codes}
use Rattle.fixed_place.specs.Rounding.{scale}
use Rattle.count_promise.specs.Left.{first_defeat}
use Rattle.sheet_page.specs.Promised.{bound_or_none, lot_items}
use Rattle.sheet_page.proofs.Printing.{wrapped}
use Rattle.sheet_page.proofs.Pens.{later, renamed}
use Rattle.sheet_page.proofs.promised.write_list.Goals as goal

pub returns : goal.returns
returns g c =
    let v = c.args.values.now in
    renamed (wrapped (codes "ul") [] (lot_items v ∷ bound_or_none g.row.P v (first_defeat (scale g.row.P) v.rows) ∷ []))
    (later c.open.ensures (later c.write_lots.ensures (later c.write_bound.ensures c.close.ensures)))
