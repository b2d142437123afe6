use Rattle.std.proofs.Common.{rules}
use Rattle.sheet_page.specs.Told.{result_title}
use Rattle.sheet_page.proofs.Printing.{leaf}
use Rattle.sheet_page.proofs.Pens.{renamed}
use Rattle.sheet_page.proofs.told.write_title.Goals as goal

pub returns : goal.returns
returns g c = renamed (leaf result_title) (search rules)
