use Rattle.std.proofs.Common.{rules}
use Rattle.sheet_page.specs.RoundTable.{standing_cell}
use Rattle.sheet_page.proofs.Printing.{leaf}
use Rattle.sheet_page.proofs.Pens.{renamed}
use Rattle.sheet_page.proofs.figures.write_standing.Goals as goal

pub returns : goal.returns
returns g c = renamed (leaf (standing_cell c.args.main.now c.args.other.now c.args.state.now)) (search rules)
