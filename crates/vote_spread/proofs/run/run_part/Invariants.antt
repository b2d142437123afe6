use Rattle.std.proofs.Common.{◌≡◌, ℕ, ◌+◌, ◌<◌, ◌≤◌, length, slice_index_or}
use Rattle.std.specs.List.{All}
use Rattle.vote_spread.specs.KeepingSeen.{settled}
use Rattle.vote_spread.specs.Shares.{HasCounted}
use Rattle.vote_spread.specs.LaneSeen.{LaneSeen, IsFit}
use Rattle.vote_spread.proofs.run.run_part.Given as goal

abbrev pub invariant-loop-k : goal.invariant-loop-k
invariant-loop-k g l = record {
  as_many : length l.lanes ≡ length l.fn.lanes;
  of_all : All (λ (lane : LaneSeen). length lane.tally ≡ length l.task.keeping.keeps) l.lanes;
  counted :
      (k : ℕ) (d : LaneSeen) → k < l.k
      → HasCounted l.task.keeping l.task.branches (l.first + k) l.count (slice_index_or l.lanes k d).tally;
  renewed :
      (k : ℕ) (d : LaneSeen) → k < l.k
      → IsFit (settled l.task.keeping) l.task.branches (l.first + k) l.count (slice_index_or l.lanes k d);
  fit :
      (k : ℕ) (d : LaneSeen) → l.k ≤ k → k < length l.lanes
      → IsFit l.task.keeping l.task.branches (l.first + k) l.count (slice_index_or l.lanes k d);
}
