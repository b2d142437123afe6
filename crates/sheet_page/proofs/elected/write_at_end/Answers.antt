use Rattle.std.proofs.Common.{rules}
use Rattle.sheet_page.specs.Html.{at_end}
use Rattle.sheet_page.proofs.Printing.{leaf}
use Rattle.sheet_page.proofs.Pens.{renamed}
use Rattle.sheet_page.proofs.elected.write_at_end.Goals as goal

pub returns : goal.returns
returns g c = renamed (leaf (at_end c.args.name.now c.args.number)) (search rules)
