use Rattle.std.proofs.Common.{sym}
use Rattle.std.proofs.lemmas.Grind.{replicate_next}
use Rattle.sheet_page.proofs.Pens.{nothing, later, renamed}
use Rattle.day_page.proofs.columns.write_spaces.Goals as goal

pub loop-init : goal.loop-init
loop-init g c = nothing _ _

pub loop-preserved : goal.loop-preserved
loop-preserved g c = renamed (sym (replicate_next c.loop.counter 32)) (later c.loop.invariant c.piece.ensures)
