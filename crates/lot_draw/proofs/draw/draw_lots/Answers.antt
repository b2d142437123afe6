use Rattle.lot_draw.proofs.Draws.{draw-order}
use Rattle.lot_draw.proofs.draw.draw_lots.Goals as goal

pub returns-in-Ok-clause-order : goal.returns-in-Ok-clause-order
returns-in-Ok-clause-order c = draw-order _ _ _ c.requires.few c.in-Ok.ensures
