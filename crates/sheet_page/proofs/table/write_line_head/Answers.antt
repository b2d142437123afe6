use Rattle.std.proofs.Common.{rules}
use Rattle.sheet_page.specs.RoundTable.{line_head}
use Rattle.sheet_page.proofs.Printing.{leaf}
use Rattle.sheet_page.proofs.Pens.{renamed}
use Rattle.sheet_page.proofs.table.write_line_head.Goals as goal

pub returns : goal.returns
returns g c = renamed (leaf (line_head c.args.text.now)) (search rules)
