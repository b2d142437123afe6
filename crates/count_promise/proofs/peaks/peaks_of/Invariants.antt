use Rattle.std.proofs.Common.{◌≡◌, ◌≤◌, ◌^◌, take}
use Rattle.count_promise.specs.Left.{greatest_lack, greatest_surplus, slack}
use Rattle.count_promise.proofs.peaks.peaks_of.Given as goal

abbrev pub invariant-loop-row : goal.invariant-loop-row
invariant-loop-row g l = record {
  surplus : l.peaks.surplus ≡ greatest_surplus (take l.row-index l.fn.rows);
  lack : l.peaks.lack ≡ greatest_lack (take l.row-index l.fn.rows);
  left : l.peaks.left ≡ slack (take l.row-index l.fn.rows);
  few_lack : l.peaks.lack ≤ 10 ^ 22;
  few_left : l.peaks.left ≤ 10 ^ 23;
}
