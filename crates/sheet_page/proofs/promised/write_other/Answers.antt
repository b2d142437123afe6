use Rattle.std.proofs.Common.{rules}
use Rattle.sheet_page.specs.Promised.{other}
use Rattle.sheet_page.proofs.Printing.{leaf}
use Rattle.sheet_page.proofs.Pens.{renamed}
use Rattle.sheet_page.proofs.promised.write_other.Goals as goal

pub returns : goal.returns
returns g c = renamed (leaf (other c.args.name.now c.args.number)) (search rules)
