use Rattle.std.proofs.Common.{rules, ◌∙◌, append-nil, []}
use Rattle.std.specs.Prelude.{codes}
use Rattle.day_page.specs.CallTable.{calls_frame_attributes}
use Rattle.sheet_page.proofs.Printing.{joined-started}
use Rattle.sheet_page.proofs.Pens.{renamed}
use Rattle.day_page.proofs.call_table.write_frame_start.Goals as goal

pub returns : goal.returns
returns g c = renamed (joined-started (codes "div") calls_frame_attributes [] ∙ append-nil _) (search rules)
