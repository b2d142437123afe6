use Rattle.std.proofs.Common.{rules}
use Rattle.sheet_page.specs.Html.{round_title}
use Rattle.sheet_page.proofs.Printing.{leaf}
use Rattle.sheet_page.proofs.Pens.{renamed}
use Rattle.sheet_page.proofs.round_parts.write_title.Goals as goal

pub returns : goal.returns
returns g c = renamed (leaf (round_title c.args.round)) (search rules)
