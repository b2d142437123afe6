use Rattle.lot_draw.proofs.Draws.{one-draw, draw-order}
use Rattle.lot_draw.proofs.laws.draw_laws.Goals as goal

pub returns-clause-one : goal.returns-clause-one
returns-clause-one c = one-draw

pub returns-clause-order : goal.returns-clause-order
returns-clause-order c = draw-order
