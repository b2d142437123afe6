use Rattle.std.proofs.Common.{length}
use Rattle.meek_rule.specs.Row.{HasRoomFor}
use Rattle.sheet_reader.proofs.ReadRows.{AreReadUpTo}
use Rattle.sheet_reader.proofs.sheet_parts.read_rows_into.Given as goal

abbrev pub invariant-loop-alloc : goal.invariant-loop-alloc
invariant-loop-alloc g l = record {
  room : HasRoomFor (length l.fn.row.states) l.row;
  so_far : AreReadUpTo g.K.RowSink.takes g.row.P (length l.fn.row.states) l.fn.lines l.lines l.fn.sink l.sink;
}

abbrev pub decreases-loop-alloc : goal.decreases-loop-alloc
decreases-loop-alloc g l = length l.lines
