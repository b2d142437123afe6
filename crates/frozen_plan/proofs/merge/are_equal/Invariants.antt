use Rattle.std.proofs.Common.{◌≡◌}
use Rattle.packed_ballots.specs.Packed.{rest_of}
use Rattle.frozen_plan.proofs.merge.are_equal.Given as goal

abbrev pub invariant-loop-at : goal.invariant-loop-at
invariant-loop-at l =
    rest_of l.ranks l.at l.one ≡ rest_of l.ranks l.at l.other
    → rest_of l.ranks 0 l.one ≡ rest_of l.ranks 0 l.other
