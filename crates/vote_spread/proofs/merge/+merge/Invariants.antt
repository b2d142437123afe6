use Rattle.std.proofs.Common.{◌≡◌, ◌+◌, ◌*◌, ◌≤◌, length, sum_by}
use Rattle.vote_spread.proofs.MergeLemmas.{IsMerging}
use Rattle.vote_spread.proofs.merge.+merge.Given as goal

abbrev pub invariant-merge-loop-candidate : goal.invariant-merge-loop-candidate
invariant-merge-loop-candidate l = record {
  fewer : sum_by (λ rows. length rows) l.parts ≤ sum_by (λ rows. length rows) l.fn.parts;
  as_many : length l.parts ≡ length l.fn.parts;
  as_much_room : length l.room ≡ length l.fn.room;
  merging : IsMerging l.depth l.fn.parts l.parts l.fn.branches l.branches;
}

abbrev pub decreases-merge-loop-candidate : goal.decreases-merge-loop-candidate
decreases-merge-loop-candidate l = sum_by (λ rows. length rows) l.parts

abbrev pub decreases-merge : goal.decreases-merge
decreases-merge l = 2 * sum_by (λ rows. length rows) l.parts.now + 1

abbrev pub decreases-merge_nodes : goal.decreases-merge_nodes
decreases-merge_nodes l = 2 * sum_by (λ rows. length rows) l.nodes.now
