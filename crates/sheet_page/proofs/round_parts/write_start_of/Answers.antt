use Rattle.std.proofs.Common.{rules, ◌∙◌, append-nil, []}
use Rattle.std.specs.Prelude.{codes}
use Rattle.sheet_page.specs.Links.{part_attributes}
use Rattle.sheet_page.proofs.Printing.{joined-started}
use Rattle.sheet_page.proofs.Pens.{renamed}
use Rattle.sheet_page.proofs.round_parts.write_start_of.Goals as goal

pub returns : goal.returns
returns g c = renamed (joined-started (codes "section") (part_attributes c.args.name.now) [] ∙ append-nil _) (search rules)
