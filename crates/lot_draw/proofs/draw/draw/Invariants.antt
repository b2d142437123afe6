use Rattle.std.proofs.Common.{◌≡◌, length}
use Rattle.lot_draw.proofs.Draws.{IsDrawnSoFar}
use Rattle.lot_draw.proofs.draw.draw.Given as goal

abbrev pub invariant-loop-drawn : goal.invariant-loop-drawn
invariant-loop-drawn l = record {
  so_far : IsDrawnSoFar l.seed l.candidates l.order.items l.left.items;
  count : length l.order.items ≡ l.drawn;
}
