use Rattle.std.proofs.Common.{take}
use Rattle.std.specs.List.{flat_map}
use Rattle.piece_text.specs.Writing.{Wrote}
use Rattle.sheet_words.specs.Parts.{part_text}
use Rattle.sheet_words.proofs.saying.say_parts.Given as goal

abbrev pub invariant-loop-part : goal.invariant-loop-part
invariant-loop-part g l =
    Wrote g.K.Sink.written g.K.Sink.faults l.initial.sink l.sink
    (flat_map (λ part. g.V.Voice.manner.voiced (part_text part)) (take l.part-index l.parts))
