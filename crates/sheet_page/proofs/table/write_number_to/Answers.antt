use Rattle.std.proofs.Common.{rules}
use Rattle.sheet_page.specs.RoundTable.{round_head}
use Rattle.sheet_page.proofs.Printing.{leaf}
use Rattle.sheet_page.proofs.Pens.{renamed}
use Rattle.sheet_page.proofs.table.write_number_to.Goals as goal

pub returns : goal.returns
returns g c = renamed (leaf (round_head c.args.target.now c.args.round)) (search rules)
