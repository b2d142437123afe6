use Rattle.std.proofs.Common.{◌≡◌, ◌+◌, ℕ, length}
use Rattle.frozen_plan.specs.Forest.{rows_of, through, nodes_of}
use Rattle.blt_writer.proofs.rows.through_all.Given as goal

-- what goes through the siblings that are left is what is missing
abbrev pub invariant-loop-siblings : goal.invariant-loop-siblings
invariant-loop-siblings l = record {
  are : (d : ℕ) × (l.siblings ≡ rows_of d (nodes_of l.siblings));
  missing : l.total + through (nodes_of l.siblings) ≡ through (nodes_of l.fn.rows);
}

abbrev pub decreases-loop-siblings : goal.decreases-loop-siblings
decreases-loop-siblings l = length l.siblings
