use Rattle.std.proofs.Common.{replicate}
use Rattle.piece_text.specs.Writing.{Wrote}
use Rattle.sheet_minutes.proofs.pieces.write_spaces.Given as goal

abbrev pub invariant-loop : goal.invariant-loop
invariant-loop g l = Wrote g.K.Sink.written g.K.Sink.faults l.initial.sink l.sink (replicate l.counter 32)
