use Rattle.std.proofs.Common.{rules}
use Rattle.day_page.specs.DayHtml.{day_heading}
use Rattle.sheet_page.proofs.Printing.{leaf}
use Rattle.sheet_page.proofs.Pens.{renamed}
use Rattle.day_page.proofs.html.write_heading.Goals as goal

pub returns : goal.returns
returns g c = renamed (leaf day_heading) (search rules)
