use Rattle.std.proofs.Common.{rules}
use Rattle.sheet_page.specs.Iterations.{summary}
use Rattle.sheet_page.proofs.Printing.{leaf}
use Rattle.sheet_page.proofs.Pens.{renamed}
use Rattle.sheet_page.proofs.iterations.write_summary.Goals as goal

pub returns : goal.returns
returns g c = renamed (leaf (summary c.args.round)) (search rules)
