use Rattle.std.proofs.Common.{◌≡◌, ℕ, ◌<◌, true}
use Rattle.lot_order.specs.Flags.{mark_at}
use Rattle.lot_order.proofs.lots.first_unmarked.Given as goal

abbrev pub invariant-loop-i : goal.invariant-loop-i
invariant-loop-i l = (p : ℕ) → p < l.i → mark_at l.seen p ≡ true
