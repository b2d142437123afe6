use Rattle.std.proofs.Common.{rules}
use Rattle.sheet_page.specs.Picture.{quota_line}
use Rattle.sheet_page.proofs.Printing.{leaf}
use Rattle.sheet_page.proofs.Pens.{renamed}
use Rattle.sheet_page.proofs.picture.write_quota_line.Goals as goal

pub returns : goal.returns
returns g c = renamed (leaf (quota_line c.args.x c.args.bars)) (search rules)
