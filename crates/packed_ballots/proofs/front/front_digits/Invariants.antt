use Rattle.std.proofs.Common.{◌≡◌, ◌+◌, ◌*◌, take}
use Rattle.packed_ballots.specs.Packed.{front_of}
use Rattle.packed_ballots.proofs.front.front_digits.Given as goal

abbrev pub invariant-loop-rank : goal.invariant-loop-rank
invariant-loop-rank l = record {
  front : l.front ≡ front_of (take l.rank-index l.ranks);
  place : l.place + 8 * l.rank-index ≡ 64;
}
