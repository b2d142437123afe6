use Rattle.std.proofs.Common.{◌≤◌, ◌+◌, ◌-◌, length, All}
use Rattle.table_text.specs.Fronts.{AreFronts}
use Rattle.table_text.specs.Reader.{IsBegun, IsCellOf}
use Rattle.table_text.proofs.record.record_end.Given as goal

abbrev pub invariant-loop-at : goal.invariant-loop-at
invariant-loop-at l = record {
  after : l.start ≤ l.at;
  inside : l.at ≤ length l.bytes;
  fronts : AreFronts l.bytes l.fronts;
  cells : All (IsCellOf l.bytes) l.cells;
  begun : IsBegun l.separator l.bytes l.row l.start l.cells l.at;
}

abbrev pub decreases-loop-at : goal.decreases-loop-at
decreases-loop-at l = length l.bytes + 1 - l.at
