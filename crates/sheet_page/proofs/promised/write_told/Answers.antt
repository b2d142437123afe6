use Rattle.std.proofs.Common.{[], ◌∷◌}
use Rattle.std.specs.Prelude.{codes}
use Rattle.sheet_page.specs.Promised.{promise_head, promise_list}
use Rattle.sheet_page.proofs.Printing.{wrapped}
use Rattle.sheet_page.proofs.Pens.{later, renamed}
use Rattle.sheet_page.proofs.promised.write_told.Goals as goal

pub returns : goal.returns
returns g c =
    renamed (wrapped (codes "section") [] (promise_head ∷ promise_list g.row.P c.args.values.now ∷ []))
    (later c.open.ensures (later c.write_head.ensures (later c.write_list.ensures c.close.ensures)))
