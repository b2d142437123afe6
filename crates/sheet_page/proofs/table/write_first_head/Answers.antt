use Rattle.std.proofs.Common.{rules}
use Rattle.sheet_page.specs.RoundTable.{first_head}
use Rattle.sheet_page.proofs.Printing.{leaf}
use Rattle.sheet_page.proofs.Pens.{renamed}
use Rattle.sheet_page.proofs.table.write_first_head.Goals as goal

pub returns : goal.returns
returns g c = renamed (leaf (first_head)) (search rules)
