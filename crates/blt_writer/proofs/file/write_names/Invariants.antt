use Rattle.std.proofs.Common.{take}
use Rattle.std.specs.List.{flat_map}
use Rattle.piece_text.specs.Writing.{Wrote}
use Rattle.blt_writer.specs.Text.{quoted}
use Rattle.blt_writer.proofs.file.write_names.Given as goal

abbrev pub invariant-loop-before : goal.invariant-loop-before
invariant-loop-before g l =
    Wrote g.K.Sink.written g.K.Sink.faults l.initial.sink l.sink (flat_map quoted (take l.before l.roll.names))
