use Rattle.std.proofs.Common.{rules}
use Rattle.sheet_page.specs.Picture.{label}
use Rattle.sheet_page.proofs.Printing.{leaf}
use Rattle.sheet_page.proofs.Pens.{renamed}
use Rattle.sheet_page.proofs.bars.write_label.Goals as goal

pub returns : goal.returns
returns g c = renamed (leaf (label g.row.P c.args.y c.args.name.now c.args.number c.args.state.now c.args.vote)) (search rules)
