use Rattle.std.proofs.Common.{take}
use Rattle.lot_order.specs.Lots.{AreLots, Sees}
use Rattle.lot_order.proofs.lots.mark_seen.Given as goal

abbrev pub invariant-loop-i : goal.invariant-loop-i
invariant-loop-i l = record {
  sound : AreLots l.candidates (take l.i l.order);
  marks : Sees l.seen (take l.i l.order);
}
