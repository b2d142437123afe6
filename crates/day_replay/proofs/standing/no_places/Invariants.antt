use Rattle.std.proofs.Common.{◌≡◌, ℕ, Option, None, replicate}
use Rattle.day_replay.proofs.standing.no_places.Given as goal

abbrev pub invariant-loop : goal.invariant-loop
invariant-loop l = l.places.items ≡ replicate {A = Option ℕ} l.counter None
