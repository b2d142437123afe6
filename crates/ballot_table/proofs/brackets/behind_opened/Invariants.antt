use Rattle.std.proofs.Common.{◌≡◌, ◌+◌, ◌≤◌, eqb, not, length, take}
use Rattle.std.specs.List.{suffix_len}
use Rattle.ballot_table.proofs.brackets.behind_opened.Given as goal

-- no byte after opens brackets
abbrev pub invariant-loop-end : goal.invariant-loop-end
invariant-loop-end l = record {
  inside : l.end ≤ length l.bytes;
  behind : l.end + suffix_len (λ b. not (eqb b 91)) l.bytes
      ≡ length l.bytes + suffix_len (λ b. not (eqb b 91)) (take l.end l.bytes);
}

abbrev pub decreases-loop-end : goal.decreases-loop-end
decreases-loop-end l = l.end
