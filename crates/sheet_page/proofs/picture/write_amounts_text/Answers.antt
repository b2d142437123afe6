use Rattle.std.proofs.Common.{rules}
use Rattle.sheet_page.specs.Picture.{amounts_text}
use Rattle.sheet_page.proofs.Printing.{leaf}
use Rattle.sheet_page.proofs.Pens.{renamed}
use Rattle.sheet_page.proofs.picture.write_amounts_text.Goals as goal

pub returns : goal.returns
returns g c = renamed (leaf (amounts_text g.row.P c.args.quota c.args.left)) (search rules)
