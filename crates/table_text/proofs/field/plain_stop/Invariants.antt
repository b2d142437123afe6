use Rattle.std.proofs.Common.{◌≤◌, ◌-◌, length}
use Rattle.table_text.specs.Reading.{Plain}
use Rattle.table_text.specs.Reader.{GoesOver}
use Rattle.table_text.proofs.field.plain_stop.Given as goal

abbrev pub invariant-loop-stop : goal.invariant-loop-stop
invariant-loop-stop l = record {
  after : l.at ≤ l.stop;
  inside : l.stop ≤ length l.bytes;
  over : GoesOver l.separator l.bytes Plain l.at l.stop Plain;
}

abbrev pub decreases-loop-stop : goal.decreases-loop-stop
decreases-loop-stop l = length l.bytes - l.stop
