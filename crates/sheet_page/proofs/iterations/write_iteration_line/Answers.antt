use Rattle.std.proofs.Common.{rules}
use Rattle.sheet_page.specs.Iterations.{iteration_line}
use Rattle.sheet_page.proofs.Printing.{leaf}
use Rattle.sheet_page.proofs.Pens.{renamed}
use Rattle.sheet_page.proofs.iterations.write_iteration_line.Goals as goal

pub returns : goal.returns
returns g c =
    renamed (leaf (iteration_line g.row.P c.args.iteration c.args.total c.args.quota c.args.surplus c.args.step.now)) (search rules)
