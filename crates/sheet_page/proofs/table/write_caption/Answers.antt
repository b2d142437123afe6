use Rattle.std.proofs.Common.{rules}
use Rattle.sheet_page.specs.RoundTable.{caption}
use Rattle.sheet_page.proofs.Printing.{leaf}
use Rattle.sheet_page.proofs.Pens.{renamed}
use Rattle.sheet_page.proofs.table.write_caption.Goals as goal

pub returns : goal.returns
returns g c = renamed (leaf (caption)) (search rules)
