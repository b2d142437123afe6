use Rattle.std.proofs.Common.{rules}
use Rattle.sheet_page.specs.Html.{in_round}
use Rattle.sheet_page.proofs.Printing.{leaf}
use Rattle.sheet_page.proofs.Pens.{renamed}
use Rattle.sheet_page.proofs.elected.write_in_round.Goals as goal

pub returns : goal.returns
returns g c = renamed (leaf (in_round c.args.name.now c.args.number c.args.round)) (search rules)
