use Rattle.sheet_page.proofs.Pens.{later}
use Rattle.sheet_page.proofs.pen.Pen.behind_comma.Goals as goal

pub returns : goal.returns
returns g c = later c.piece.ensures c.field.ensures
