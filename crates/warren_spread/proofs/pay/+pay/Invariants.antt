use Rattle.std.proofs.Common.{◌≡◌, ℕ, ◌+◌, ◌<◌, ◌≤◌, length, slice_index}
use Rattle.warren_spread.specs.Paid.{paid, row_ballots, AreSiblings}
use Rattle.warren_spread.proofs.pay.+pay.Given as goal

-- what the siblings that are left are still to pay is what is missing
abbrev pub invariant-loop-siblings : goal.invariant-loop-siblings
invariant-loop-siblings l = record {
  shorter : length l.siblings ≤ length l.fn.rows;
  are : AreSiblings (length l.fn.sums) l.siblings;
  same_length : length l.sums ≡ length l.fn.sums;
  missing :
      (p : ℕ) → p < length l.fn.sums
      → slice_index l.sums p + paid l.prices l.rest (row_ballots l.siblings) (p + 1)
      ≡ slice_index l.fn.sums p + paid l.prices l.rest (row_ballots l.fn.rows) (p + 1);
}

abbrev pub decreases-loop-siblings : goal.decreases-loop-siblings
decreases-loop-siblings l = length l.siblings

abbrev pub decreases-pay : goal.decreases-pay
decreases-pay l = length l.rows.now
