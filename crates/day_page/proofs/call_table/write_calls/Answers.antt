use Rattle.std.proofs.Common.{[], ◌∷◌}
use Rattle.std.specs.Prelude.{codes}
use Rattle.day_page.specs.CallTable.{calls_frame, calls_title}
use Rattle.sheet_page.proofs.Printing.{wrapped}
use Rattle.sheet_page.proofs.Pens.{later, renamed}
use Rattle.day_page.proofs.call_table.write_calls.Goals as goal

pub returns : goal.returns
returns g c =
    let history = c.args.history.now.items in
    renamed (wrapped (codes "section") [] (calls_title ∷ calls_frame history ∷ []))
    (later c.open.ensures (later c.write_title.ensures (later c.write_frame.ensures c.close.ensures)))
