use Rattle.std.proofs.Common.{◌≡◌}
use Rattle.ballot_tests.proofs.samples.packed_of.Given as goal

abbrev pub invariant-loop-line : goal.invariant-loop-line
invariant-loop-line l = l.packed.candidates ≡ l.candidates
