use Rattle.std.proofs.Common.{◌≡◌, ◌+◌, ◌-◌, ◌≤◌, length, drop}
use Rattle.std.specs.List.{prefix_len}
use Rattle.ballot_table.specs.Texts.{is_digit}
use Rattle.ballot_table.proofs.said_number.end_of_digits.Given as goal

-- all bytes so far are digits
abbrev pub invariant-loop-at : goal.invariant-loop-at
invariant-loop-at l = record {
  inside : l.at ≤ length l.text;
  before : prefix_len is_digit l.text ≡ l.at + prefix_len is_digit (drop l.at l.text);
}

abbrev pub decreases-loop-at : goal.decreases-loop-at
decreases-loop-at l = length l.text - l.at
