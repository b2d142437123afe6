use Rattle.std.proofs.Common.{rules, ◌∙◌, append-nil, []}
use Rattle.std.specs.Prelude.{codes}
use Rattle.sheet_page.specs.RoundTable.{frame_attributes}
use Rattle.sheet_page.proofs.Printing.{joined-started}
use Rattle.sheet_page.proofs.Pens.{renamed}
use Rattle.sheet_page.proofs.table.write_frame_start.Goals as goal

pub returns : goal.returns
returns g c = renamed (joined-started (codes "div") frame_attributes [] ∙ append-nil _) (search rules)
