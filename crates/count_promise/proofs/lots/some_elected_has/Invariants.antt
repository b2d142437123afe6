use Rattle.std.proofs.Common.{◌≡◌, ◌<◌, ℕ, false}
use Rattle.count_promise.specs.Lots.{elects}
use Rattle.count_promise.proofs.lots.some_elected_has.Given as goal

abbrev pub invariant-loop-p : goal.invariant-loop-p
invariant-loop-p g l = (q : ℕ) → q < l.p → elects l.fn.row l.vote q ≡ false
