use Rattle.std.proofs.Common.{◌≡◌, ◌<◌, ℕ, false}
use Rattle.count_promise.specs.Lots.{is_seated_by_lot}
use Rattle.count_promise.proofs.lots.election_is_by_lot.Given as goal

abbrev pub invariant-loop-p : goal.invariant-loop-p
invariant-loop-p g l = (q : ℕ) → q < l.p → is_seated_by_lot l.fn.row q ≡ false
