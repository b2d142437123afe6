use Rattle.std.proofs.Common.{arith}
use Rattle.std.proofs.lemmas.List.Sorted.{length_permutation}
use Rattle.blt_writer.proofs.export.Export.begin.Goals as goal

pub invariant_of-result : goal.invariant_of-result
invariant_of-result c =
    (c.in_ok-cursors.ensures.order, omega (arith, length_permutation _ _ c.in_ok-cursors.ensures.ballots, c.requires.few))
