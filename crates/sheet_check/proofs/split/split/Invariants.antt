use Rattle.std.proofs.Common.{ℕ, ◌<◌}
use Rattle.sheet_check.specs.Input.{HasEndAt}
use Rattle.sheet_check.proofs.split.split.Given as goal

abbrev pub invariant-loop-at : goal.invariant-loop-at
invariant-loop-at l = record {
  none_before : (k : ℕ) → k < l.at → ¬ HasEndAt l.input k;
}
