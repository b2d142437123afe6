use Rattle.std.proofs.Common.{◌≡◌, ◌+◌, ◌++◌, length}
use Rattle.frozen_plan.specs.Forest.{rows_of}
use Rattle.frozen_plan.specs.Groups.{chain}
use Rattle.packed_ballots.specs.Packed.{rest_of}
use Rattle.frozen_plan.proofs.chain.push_line.Given as goal

abbrev pub invariant-loop-i : goal.invariant-loop-i
invariant-loop-i l = record {
  rows : l.rows.items ++ rows_of (l.i + 1) (chain l.line.count (rest_of l.ranks l.i l.line))
      ≡ l.initial.rows.items ++ rows_of (l.at + 1) (chain l.line.count (rest_of l.ranks l.at l.line));
  left : l.i + length (rest_of l.ranks l.i l.line) ≡ l.end;
}
