use Rattle.std.proofs.Common.{◌+◌, ◌*◌, ◌≤◌, length}
use Rattle.vote_spread.proofs.PackLemmas.{IsUnderway}
use Rattle.vote_spread.proofs.pack.+pack.Given as goal

abbrev pub invariant-pack_rows-loop-rest : goal.invariant-pack_rows-loop-rest
invariant-pack_rows-loop-rest l = record {
  shorter : length l.rest ≤ length l.fn.rows;
  underway : IsUnderway l.depth l.fn.rows l.rest l.fn.branches l.branches;
}

abbrev pub decreases-pack_rows-loop-rest : goal.decreases-pack_rows-loop-rest
decreases-pack_rows-loop-rest l = length l.rest

abbrev pub decreases-pack_rows : goal.decreases-pack_rows
decreases-pack_rows l = 2 * length l.rows.now + 1

abbrev pub decreases-pack_node : goal.decreases-pack_node
decreases-pack_node l = 2 * length l.rows.now
