use Rattle.std.proofs.Common.{rules}
use Rattle.day_page.specs.Freezes.{freeze_link}
use Rattle.sheet_page.proofs.Printing.{leaf}
use Rattle.sheet_page.proofs.Pens.{renamed}
use Rattle.day_page.proofs.freeze_links.write_link_text.Goals as goal

pub returns : goal.returns
returns g c = renamed (leaf (freeze_link c.args.target.now c.args.freeze c.args.whose.now)) (search rules)
