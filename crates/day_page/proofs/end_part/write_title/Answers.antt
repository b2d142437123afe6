use Rattle.std.proofs.Common.{rules}
use Rattle.day_page.specs.EndPart.{end_title}
use Rattle.sheet_page.proofs.Printing.{leaf}
use Rattle.sheet_page.proofs.Pens.{renamed}
use Rattle.day_page.proofs.end_part.write_title.Goals as goal

pub returns : goal.returns
returns g c = renamed (leaf end_title) (search rules)
