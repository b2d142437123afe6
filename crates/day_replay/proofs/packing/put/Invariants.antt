use Rattle.std.proofs.Common.{◌≡◌, ◌++◌, take, IsPermutation}
use Rattle.plain_ballots.specs.Ballots.{plain}
use Rattle.day_replay.proofs.packing.put.Given as goal

abbrev pub invariant-loop-line : goal.invariant-loop-line
invariant-loop-line l = record {
  candidates : l.packed.candidates ≡ l.initial.packed.candidates;
  ballots : IsPermutation (plain l.packed.lines) (plain l.initial.packed.lines ++ plain (take l.line-index l.line-items));
}
