use Rattle.std.proofs.Common.{◌≡◌, ◌+◌, ◌++◌, map, take, vec_len, vec_capacity}
use Rattle.packed_ballots.specs.Packed.{raised}
use Rattle.packed_ballots.proofs.append.put_raised.Given as goal

abbrev pub invariant-loop-line : goal.invariant-loop-line
invariant-loop-line l = record {
  items : l.lines.items ≡ l.initial.lines.items ++ map (raised l.by) (take l.line-index l.others);
  len : vec_len l.lines ≡ vec_len l.initial.lines + l.line-index;
  capacity : vec_capacity l.lines ≡ vec_capacity l.initial.lines;
}
