use Rattle.std.proofs.Common.{◌≡◌, [], replicate}
use Rattle.tally_cli.proofs.opening.nothing_kept.Given as goal

abbrev pub invariant-loop : goal.invariant-loop
invariant-loop l = l.kept.items ≡ replicate l.counter (record { candidates = l.candidates; lines = [] })
