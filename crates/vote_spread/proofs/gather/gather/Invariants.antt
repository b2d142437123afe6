use Rattle.std.proofs.Common.{◌≡◌, ℕ, ◌<◌, length, slice_index, sum_by}
use Rattle.vote_spread.specs.LaneSeen.{LaneSeen}
use Rattle.vote_spread.proofs.gather.gather.Given as goal

abbrev pub invariant-loop-p : goal.invariant-loop-p
invariant-loop-p g l = record {
  same_length : length l.tally ≡ length l.fn.tally;
  so_far : (q : ℕ) → q < l.p → slice_index l.tally q ≡ sum_by (λ (lane : LaneSeen). slice_index lane.tally q) l.lanes;
}
