use Rattle.std.proofs.Common.{rules}
use Rattle.sheet_page.specs.Links.{round_link}
use Rattle.sheet_page.proofs.Printing.{leaf}
use Rattle.sheet_page.proofs.Pens.{renamed}
use Rattle.sheet_page.proofs.links.write_link_text.Goals as goal

pub returns : goal.returns
returns g c = renamed (leaf (round_link c.args.target.now c.args.round)) (search rules)
