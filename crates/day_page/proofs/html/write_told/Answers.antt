use Rattle.std.proofs.Common.{rules}
use Rattle.day_page.specs.DayHtml.{told_of_page}
use Rattle.sheet_page.proofs.Printing.{leaf}
use Rattle.sheet_page.proofs.Pens.{renamed}
use Rattle.day_page.proofs.html.write_told.Goals as goal

pub returns : goal.returns
returns g c = renamed (leaf told_of_page) (search rules)
