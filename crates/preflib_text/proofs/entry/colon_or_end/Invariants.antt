use Rattle.std.proofs.Common.{◌≡◌, ◌+◌, ◌-◌, ◌≤◌, eqb, not, length, drop}
use Rattle.std.specs.List.{prefix_len}
use Rattle.preflib_text.proofs.entry.colon_or_end.Given as goal

-- no colon so far
abbrev pub invariant-loop-at : goal.invariant-loop-at
invariant-loop-at l = record {
  inside : l.at ≤ length l.bytes;
  before : prefix_len (λ b. not (eqb b 58)) l.bytes ≡ l.at + prefix_len (λ b. not (eqb b 58)) (drop l.at l.bytes);
}

abbrev pub decreases-loop-at : goal.decreases-loop-at
decreases-loop-at l = length l.bytes - l.at
