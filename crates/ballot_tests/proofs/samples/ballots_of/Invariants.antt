use Rattle.std.proofs.Common.{◌≡◌}
use Rattle.ballot_tests.proofs.samples.ballots_of.Given as goal

abbrev pub invariant-loop-line : goal.invariant-loop-line
invariant-loop-line l = l.ballots.candidates ≡ l.candidates
