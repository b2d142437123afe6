use Rattle.std.proofs.Common.{◌≡◌, ℕ, ◌+◌, ◌<◌, ◌≤◌, length, slice_index_or, vec_len, vec_capacity}
use Rattle.std.specs.List.{All}
use Rattle.vote_spread.specs.LaneSeen.{LaneSeen}
use Rattle.vote_spread.specs.Rows.{room_for}
use Rattle.shared_work.specs.Shares.{share}
use Rattle.vote_spread.proofs.lanes.lanes_of.Given as goal

abbrev pub invariant-loop-k : goal.invariant-loop-k
invariant-loop-k l = record {
  as_many : vec_len l.lanes ≡ l.k;
  capacity : l.workers ≤ vec_capacity l.lanes;
  of_all : All (λ (lane : LaneSeen). length lane.tally ≡ l.candidates) l.lanes.items;
  rooms : (k : ℕ) (d : LaneSeen) → k < l.k
      → room_for l.branches (share (length l.branches) k l.workers)
      (share (length l.branches) (k + 1) l.workers) ≤ (slice_index_or l.lanes.items k d).room;
}
