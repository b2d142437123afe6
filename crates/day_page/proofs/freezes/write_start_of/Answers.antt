use Rattle.std.proofs.Common.{rules, ◌∙◌, append-nil, []}
use Rattle.std.specs.Prelude.{codes}
use Rattle.sheet_page.specs.Links.{part_attributes}
use Rattle.sheet_page.proofs.Printing.{joined-started}
use Rattle.sheet_page.proofs.Pens.{renamed}
use Rattle.day_page.proofs.freezes.write_start_of.Goals as goal

pub returns : goal.returns
returns g c =
    renamed (joined-started (codes "article") (part_attributes c.args.name.now) [] ∙ append-nil _)
    (search rules)
