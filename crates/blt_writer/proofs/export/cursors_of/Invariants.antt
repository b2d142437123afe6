use Rattle.std.proofs.Common.{◌++◌, length}
use Rattle.std.specs.Prelude.{IsPermutation}
use Rattle.frozen_plan.specs.Plan.{all_ballots}
use Rattle.blt_writer.specs.Merge.{AreInOrder, all_plain}
use Rattle.blt_writer.proofs.export.cursors_of.Given as goal

-- the ballots of the plans that were taken, and of the others
abbrev pub invariant-loop-plan : goal.invariant-loop-plan
invariant-loop-plan l = record {
  order : AreInOrder l.cursors.items;
  ballots : IsPermutation (all_plain l.cursors.items ++ all_ballots l.others) (all_ballots l.fn.plans);
}

abbrev pub decreases-loop-plan : goal.decreases-loop-plan
decreases-loop-plan l = length l.others
