use Rattle.std.proofs.Common.{◌≡◌, ℕ, ◌<◌, length, slice_index}
use Rattle.warren_spread.proofs.warren_spread.distribute.Given as goal

abbrev pub invariant-loop-p : goal.invariant-loop-p
invariant-loop-p g l = record {
  same_length : length l.tally ≡ length l.fn.tally;
  so_far : (q : ℕ) → q < l.p → slice_index l.tally q ≡ slice_index l.sums q;
}
