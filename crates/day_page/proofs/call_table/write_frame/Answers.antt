use Rattle.std.proofs.Common.{[], ◌∷◌}
use Rattle.std.specs.Prelude.{codes}
use Rattle.day_page.specs.CallTable.{call_table, calls_frame_attributes}
use Rattle.sheet_page.proofs.Printing.{wrapped}
use Rattle.sheet_page.proofs.Pens.{later, renamed}
use Rattle.day_page.proofs.call_table.write_frame.Goals as goal

pub returns : goal.returns
returns g c =
    renamed (wrapped (codes "div") calls_frame_attributes (call_table c.args.history.now.items ∷ []))
    (later c.write_frame_start.ensures (later c.write_table.ensures c.close.ensures))
