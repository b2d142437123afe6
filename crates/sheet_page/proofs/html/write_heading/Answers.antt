use Rattle.std.proofs.Common.{rules}
use Rattle.sheet_page.specs.Html.{heading}
use Rattle.sheet_page.proofs.Printing.{leaf}
use Rattle.sheet_page.proofs.Pens.{renamed}
use Rattle.sheet_page.proofs.html.write_heading.Goals as goal

pub returns : goal.returns
returns g c = renamed (leaf (heading c.args.values.now)) (search rules)
