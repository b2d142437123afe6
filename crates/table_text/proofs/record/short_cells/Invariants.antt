use Rattle.std.proofs.Common.{◌≤◌, ◌+◌, ◌-◌, length, All}
use Rattle.table_text.specs.Fronts.{AreFronts}
use Rattle.table_text.specs.Reader.{GoesOn, IsCellOf}
use Rattle.table_text.proofs.record.short_cells.Given as goal

abbrev pub invariant-loop-fronts : goal.invariant-loop-fronts
invariant-loop-fronts l = record {
  after : l.start ≤ l.at;
  inside : l.at ≤ length l.bytes;
  fronts : AreFronts l.bytes l.fronts;
  cells : All (IsCellOf l.bytes) l.cells;
  on : GoesOn l.separator l.bytes l.initial.cells l.cells l.start l.at;
}

abbrev pub decreases-loop-fronts : goal.decreases-loop-fronts
decreases-loop-fronts l = length l.bytes + 1 - l.at
