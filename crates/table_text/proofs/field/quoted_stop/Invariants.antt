use Rattle.std.proofs.Common.{◌≤◌, ◌-◌, length, if◌then◌else◌}
use Rattle.table_text.specs.Reading.{Front, Within, BehindQuote}
use Rattle.table_text.specs.Reader.{GoesOver}
use Rattle.table_text.proofs.field.quoted_stop.Given as goal

abbrev pub invariant-loop-stop : goal.invariant-loop-stop
invariant-loop-stop l = record {
  after : l.at ≤ l.stop;
  inside : l.stop ≤ length l.bytes;
  over : GoesOver l.separator l.bytes Front l.at l.stop (if l.is_behind_quote then BehindQuote else Within);
}

abbrev pub decreases-loop-stop : goal.decreases-loop-stop
decreases-loop-stop l = length l.bytes - l.stop
