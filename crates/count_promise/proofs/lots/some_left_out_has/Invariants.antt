use Rattle.std.proofs.Common.{◌≡◌, ◌<◌, ℕ, false}
use Rattle.count_promise.specs.Lots.{leaves_out}
use Rattle.count_promise.proofs.lots.some_left_out_has.Given as goal

abbrev pub invariant-loop-p : goal.invariant-loop-p
invariant-loop-p g l = (q : ℕ) → q < l.p → leaves_out l.fn.row l.vote q ≡ false
