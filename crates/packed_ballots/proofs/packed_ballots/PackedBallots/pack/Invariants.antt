use Rattle.std.proofs.Common.{◌≡◌, ◌++◌, length, IsPermutation}
use Rattle.plain_ballots.specs.Ballots.{plain}
use Rattle.packed_ballots.proofs.packed_ballots.PackedBallots.pack.Given as goal

abbrev pub invariant-loop-line : goal.invariant-loop-line
invariant-loop-line l = record {
  left : l.ballots.candidates ≡ l.initial.ballots.candidates;
  candidates : l.packed.candidates ≡ l.initial.ballots.candidates;
  ballots : IsPermutation (plain l.packed.lines ++ plain l.ballots.lines) (plain l.initial.ballots.lines);
}

abbrev pub decreases-loop-line : goal.decreases-loop-line
decreases-loop-line l = length l.ballots.lines
