use Rattle.std.proofs.Common.{◌≡◌, ◌+◌, ◌-◌, ◌≤◌, length, drop, not}
use Rattle.std.specs.List.{prefix_len}
use Rattle.ballot_table.specs.Texts.{is_digit}
use Rattle.ballot_table.proofs.said_number.from_digits.Given as goal

-- no byte so far is a digit
abbrev pub invariant-loop-at : goal.invariant-loop-at
invariant-loop-at l = record {
  inside : l.at ≤ length l.text;
  before : prefix_len (λ b. not (is_digit b)) l.text ≡ l.at + prefix_len (λ b. not (is_digit b)) (drop l.at l.text);
}

abbrev pub decreases-loop-at : goal.decreases-loop-at
decreases-loop-at l = length l.text - l.at
