use Rattle.std.proofs.Common.{◌≡◌, ◌≤◌, ◌*◌, IsPermutation}
use Rattle.plain_ballots.specs.Ballots.{ballot_count, plain}
use Rattle.day_replay.specs.Places.{first_lines}
use Rattle.day_replay.proofs.packing.pack_placed.Given as goal

abbrev pub invariant-loop-place : goal.invariant-loop-place
invariant-loop-place l = record {
  candidates : l.packed.candidates ≡ l.candidates;
  ballots : IsPermutation (plain l.packed.lines) (plain (first_lines l.entries l.places l.place-index));
  few : ballot_count l.packed.lines ≤ l.place-index * 100000;
}
