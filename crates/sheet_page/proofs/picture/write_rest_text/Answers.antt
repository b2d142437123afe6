use Rattle.std.proofs.Common.{rules}
use Rattle.sheet_page.specs.Picture.{rest_text}
use Rattle.sheet_page.proofs.Printing.{leaf}
use Rattle.sheet_page.proofs.Pens.{renamed}
use Rattle.sheet_page.proofs.picture.write_rest_text.Goals as goal

pub returns : goal.returns
returns g c = renamed (leaf (rest_text c.args.count c.args.votes.now)) (search rules)
