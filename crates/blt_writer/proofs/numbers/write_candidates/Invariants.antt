use Rattle.std.proofs.Common.{take}
use Rattle.std.specs.List.{flat_map}
use Rattle.piece_text.specs.Writing.{Wrote}
use Rattle.blt_writer.specs.Text.{number_then}
use Rattle.blt_writer.proofs.numbers.write_candidates.Given as goal

abbrev pub invariant-loop-candidate : goal.invariant-loop-candidate
invariant-loop-candidate g l =
    Wrote g.K.Sink.written g.K.Sink.faults l.initial.sink l.sink
    (flat_map (number_then 32) (take l.candidate-index l.ranking))
