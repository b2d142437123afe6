use Rattle.std.proofs.Common.{rules}
use Rattle.day_page.specs.EndPart.{struck_item}
use Rattle.sheet_page.proofs.Printing.{leaf}
use Rattle.sheet_page.proofs.Pens.{renamed}
use Rattle.day_page.proofs.end_part.write_struck_one.Goals as goal

pub returns : goal.returns
returns g c = renamed (leaf (struck_item c.args.candidate)) (search rules)
