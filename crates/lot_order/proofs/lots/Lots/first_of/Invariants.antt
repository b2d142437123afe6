use Rattle.std.proofs.Common.{◌≡◌, drop}
use Rattle.lot_order.specs.Lots.{first_marked}
use Rattle.lot_order.proofs.lots.Lots.first_of.Given as goal

abbrev pub invariant-loop-c : goal.invariant-loop-c
invariant-loop-c l = first_marked (drop l.c-index l.c-items) l.tied ≡ first_marked l.c-items l.tied
