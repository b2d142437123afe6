use Rattle.std.proofs.Common.{take}
use Rattle.std.specs.List.{flat_map}
use Rattle.piece_text.specs.Writing.{Wrote}
use Rattle.sheet_words.specs.Lines.{sentences_of}
use Rattle.sheet_words.specs.Manner.{told}
use Rattle.sheet_words.proofs.story.write_iterations.Given as goal

abbrev pub invariant-loop-row : goal.invariant-loop-row
invariant-loop-row g l =
    Wrote g.K.Sink.written g.K.Sink.faults l.initial.sink l.sink
    (flat_map (λ row. flat_map (told g.V.Voice.manner) (sentences_of g.row.P l.values row)) (take l.row-index l.values.rows))
