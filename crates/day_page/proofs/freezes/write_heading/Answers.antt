use Rattle.std.proofs.Common.{rules}
use Rattle.day_page.specs.Freezes.{freeze_heading}
use Rattle.sheet_page.proofs.Printing.{leaf}
use Rattle.sheet_page.proofs.Pens.{renamed}
use Rattle.day_page.proofs.freezes.write_heading.Goals as goal

pub returns : goal.returns
returns g c = renamed (leaf (freeze_heading c.args.freeze c.args.whose.now)) (search rules)
