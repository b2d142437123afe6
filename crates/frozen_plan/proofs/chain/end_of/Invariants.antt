use Rattle.std.proofs.Common.{◌≡◌, ◌+◌, length}
use Rattle.packed_ballots.specs.Packed.{rest_of}
use Rattle.frozen_plan.proofs.chain.end_of.Given as goal

abbrev pub invariant-loop-i : goal.invariant-loop-i
invariant-loop-i l = l.i + length (rest_of l.ranks l.i l.line) ≡ l.at + length (rest_of l.ranks l.at l.line)
