use Rattle.std.proofs.Common.{[], ◌∷◌}
use Rattle.std.specs.Prelude.{codes}
use Rattle.day_page.specs.CallTable.{call_heads, call_rows}
use Rattle.sheet_page.proofs.Printing.{wrapped}
use Rattle.sheet_page.proofs.Pens.{later, renamed}
use Rattle.day_page.proofs.call_table.write_table.Goals as goal

pub returns : goal.returns
returns g c =
    renamed (wrapped (codes "table") [] (call_heads ∷ call_rows c.args.history.now.items ∷ []))
    (later c.open.ensures (later c.write_heads.ensures (later c.write_body.ensures c.close.ensures)))
