use Rattle.std.proofs.Common.{◌≡◌, true, false, ◌<◌}
use Rattle.thread_tests.proofs.turns.fn.sums.scope.Given as goal

abbrev pub invariant-loop-caller : goal.invariant-loop-caller
invariant-loop-caller g l =
    (l.first.lock ≡ l.shared) × (l.first.is_first ≡ true) × (l.first.holds ≡ false)
    × (l.first.given < l.caller)
