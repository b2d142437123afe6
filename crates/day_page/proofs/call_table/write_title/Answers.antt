use Rattle.std.proofs.Common.{rules}
use Rattle.day_page.specs.CallTable.{calls_title}
use Rattle.sheet_page.proofs.Printing.{leaf}
use Rattle.sheet_page.proofs.Pens.{renamed}
use Rattle.day_page.proofs.call_table.write_title.Goals as goal

pub returns : goal.returns
returns g c = renamed (leaf calls_title) (search rules)
