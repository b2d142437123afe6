use Rattle.std.proofs.Common.{rules}
use Rattle.sheet_page.specs.Picture.{picture_title}
use Rattle.sheet_page.proofs.Printing.{leaf}
use Rattle.sheet_page.proofs.Pens.{renamed}
use Rattle.sheet_page.proofs.picture.write_title.Goals as goal

pub returns : goal.returns
returns g c = renamed (leaf (picture_title c.args.round)) (search rules)
