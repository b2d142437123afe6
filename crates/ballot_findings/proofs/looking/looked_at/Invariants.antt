use Rattle.std.proofs.Common.{◌≡◌, ◌≤◌, ℕ, List, length, take}
use Rattle.std.specs.List.{count_by, list_any, range_with_len}
use Rattle.std.specs.Str.{bytes_eq}
use Rattle.ballot_findings.specs.Counts.{is_repeat, rankings}
use Rattle.ballot_findings.specs.Said.{has}
use Rattle.ballot_findings.specs.Tally.{IsTally}
use Rattle.ballot_findings.proofs.looking.looked_at.Given as goal

abbrev pub invariant-loop-line : goal.invariant-loop-line
invariant-loop-line l = record {
  tally : IsTally (length l.fn.roll.names) l.fn.roll.withdrawn (take l.line-index l.lines) l.tally;
  repeats : l.repeats ≡ count_by (is_repeat (rankings l.lines)) (range_with_len 0 l.line-index);
  few : l.repeats ≤ l.line-index;
  said : (q : List ℕ) → has l.said q ≡ list_any (bytes_eq q) (take l.line-index (rankings l.lines));
}
