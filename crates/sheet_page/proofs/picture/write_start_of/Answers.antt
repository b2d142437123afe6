use Rattle.std.proofs.Common.{rules, ◌∙◌, append-nil, []}
use Rattle.std.specs.Prelude.{codes}
use Rattle.sheet_page.specs.Picture.{attributes_of}
use Rattle.sheet_page.proofs.Printing.{joined-started}
use Rattle.sheet_page.proofs.Pens.{renamed}
use Rattle.sheet_page.proofs.picture.write_start_of.Goals as goal

pub returns : goal.returns
returns g c = renamed (joined-started (codes "svg") (attributes_of c.args.view.now) [] ∙ append-nil _) (search rules)
