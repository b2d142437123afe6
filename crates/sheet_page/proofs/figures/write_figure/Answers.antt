use Rattle.std.proofs.Common.{rules}
use Rattle.sheet_page.specs.RoundTable.{figure_cell}
use Rattle.sheet_page.proofs.Printing.{leaf}
use Rattle.sheet_page.proofs.Pens.{renamed}
use Rattle.sheet_page.proofs.figures.write_figure.Goals as goal

pub returns : goal.returns
returns g c = renamed (leaf (figure_cell c.args.main.now c.args.other.now)) (search rules)
