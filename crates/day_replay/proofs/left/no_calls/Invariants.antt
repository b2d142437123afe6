use Rattle.std.proofs.Common.{◌≡◌, [], replicate}
use Rattle.day_replay.proofs.left.no_calls.Given as goal

abbrev pub invariant-loop : goal.invariant-loop
invariant-loop l = l.teams.items ≡ replicate l.counter []
