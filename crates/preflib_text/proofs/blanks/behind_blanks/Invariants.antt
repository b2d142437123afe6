use Rattle.std.proofs.Common.{◌≡◌, ◌+◌, ◌-◌, ◌≤◌, length, drop}
use Rattle.std.specs.List.{prefix_len}
use Rattle.preflib_text.specs.Texts.{is_blank}
use Rattle.preflib_text.proofs.blanks.behind_blanks.Given as goal

-- all bytes so far are blank
abbrev pub invariant-loop-at : goal.invariant-loop-at
invariant-loop-at l = record {
  inside : l.at ≤ length l.bytes;
  before : prefix_len is_blank l.bytes ≡ l.at + prefix_len is_blank (drop l.at l.bytes);
}

abbrev pub decreases-loop-at : goal.decreases-loop-at
decreases-loop-at l = length l.bytes - l.at
