use Rattle.std.proofs.Common.{rules}
use Rattle.sheet_page.specs.Iterations.{standing}
use Rattle.sheet_page.proofs.Printing.{leaf}
use Rattle.sheet_page.proofs.Pens.{renamed}
use Rattle.sheet_page.proofs.iterations.write_standing.Goals as goal

pub returns : goal.returns
returns g c = renamed (leaf (standing g.row.P c.args.number c.args.state.now c.args.keep.now c.args.vote)) (search rules)
