use Rattle.std.proofs.Common.{take, length}
use Rattle.std.specs.List.{flat_map, range_with_len}
use Rattle.piece_text.specs.Writing.{Wrote}
use Rattle.blt_writer.specs.Marks.{mark_text}
use Rattle.blt_writer.proofs.file.write_withdrawn.Given as goal

abbrev pub invariant-loop-before : goal.invariant-loop-before
invariant-loop-before g l =
    Wrote g.K.Sink.written g.K.Sink.faults l.initial.sink l.sink
    (flat_map (mark_text l.roll.withdrawn) (take l.before (range_with_len 1 (length l.roll.withdrawn))))
