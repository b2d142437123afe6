use Rattle.std.proofs.Common.{ℕ, ◌<◌}
use Rattle.day_audit.specs.Input.{IsLastEnd}
use Rattle.day_audit.proofs.split.text_and_file.Given as goal

abbrev pub invariant-loop-at : goal.invariant-loop-at
invariant-loop-at l = (k : ℕ) → k < l.at → ¬ IsLastEnd l.input k
