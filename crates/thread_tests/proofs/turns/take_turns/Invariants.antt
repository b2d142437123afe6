use Rattle.std.proofs.Common.{◌≡◌}
use Rattle.thread_tests.proofs.turns.take_turns.Given as goal

abbrev pub invariant-loop : goal.invariant-loop
invariant-loop g l = l.seat.lock ≡ l.lock
