use Rattle.std.proofs.Common.{◌≡◌, ℕ, ◌<◌, length, slice_index}
use Rattle.warren_spread.proofs.warren_spread.load.Given as goal

abbrev pub invariant-loop-p : goal.invariant-loop-p
invariant-loop-p g l = record {
  same_length : length l.plain ≡ length l.fn.plain;
  so_far : (q : ℕ) → q < l.p → slice_index l.plain q ≡ slice_index l.prices q;
}
