use Rattle.std.proofs.Common.{◌≡◌, drop, length}
use Rattle.std.specs.Str.{chars}
use Rattle.ballot_findings.specs.Signs.{last_or}
use Rattle.ballot_findings.proofs.Windows.{spaced_ill}
use Rattle.ballot_findings.proofs.odd.has_unusual_blanks.Given as goal

abbrev pub invariant-loop-character : goal.invariant-loop-character
invariant-loop-character l = record {
  spaced : spaced_ill l.before (drop (length l.yielded) (chars l.text)) ≡ spaced_ill 32 (chars l.text);
  last : last_or l.last (drop (length l.yielded) (chars l.text)) ≡ last_or 0 (chars l.text);
}
