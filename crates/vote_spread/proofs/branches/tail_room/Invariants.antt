use Rattle.std.proofs.Common.{◌≡◌, ◌+◌, ◌*◌, ◌≤◌, sum_by, take}
use Rattle.vote_spread.specs.declared.branch.Branch.{Branch}
use Rattle.vote_spread.proofs.branches.tail_room.Given as goal

abbrev pub invariant-loop-branch : goal.invariant-loop-branch
invariant-loop-branch l = record {
  value : l.room ≡ sum_by (λ (b : Branch). b.length + 1) (take l.branch-index l.branches);
  few : l.room ≤ 256 * l.branch-index;
}
