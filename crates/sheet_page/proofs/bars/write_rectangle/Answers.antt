use Rattle.std.proofs.Common.{rules}
use Rattle.sheet_page.specs.Picture.{rectangle}
use Rattle.sheet_page.proofs.Printing.{leaf}
use Rattle.sheet_page.proofs.Pens.{renamed}
use Rattle.sheet_page.proofs.bars.write_rectangle.Goals as goal

pub returns : goal.returns
returns g c = renamed (leaf (rectangle c.args.y c.args.length c.args.state.now)) (search rules)
