use Rattle.std.proofs.Common.{◌≡◌}
use Rattle.ballot_marks.proofs.SoFarLemmas.{IsSoFar}
use Rattle.ballot_marks.proofs.treating.treat.Given as goal

abbrev pub invariant-loop-place : goal.invariant-loop-place
invariant-loop-place l = record {
  candidates : l.so_far.candidates ≡ l.candidates;
  so_far : IsSoFar l.treatment l.marks l.place l.so_far;
}
