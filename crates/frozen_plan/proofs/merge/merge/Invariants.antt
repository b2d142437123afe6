use Rattle.frozen_plan.proofs.MergeLemmas.{AreMerged}
use Rattle.frozen_plan.proofs.merge.merge.Given as goal

abbrev pub invariant-loop-i : goal.invariant-loop-i
invariant-loop-i l = AreMerged l.ranks l.initial.lines l.lines l.i l.last
