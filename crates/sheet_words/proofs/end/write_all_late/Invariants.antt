use Rattle.std.proofs.Common.{length, take, map}
use Rattle.std.specs.List.{flat_map}
use Rattle.piece_text.specs.Writing.{Wrote}
use Rattle.sheet_words.specs.Groups.{all_places}
use Rattle.sheet_words.specs.Lines.{at_end}
use Rattle.sheet_words.specs.Manner.{told}
use Rattle.sheet_words.specs.Sentences.{late_at}
use Rattle.sheet_words.proofs.end.write_all_late.Given as goal

abbrev pub invariant-loop-p : goal.invariant-loop-p
invariant-loop-p g l =
    Wrote g.K.Sink.written g.K.Sink.faults l.initial.sink l.sink
    (flat_map (λ p. flat_map (told g.V.Voice.manner) (map at_end (late_at l.values p)))
    (take l.p (all_places (length l.values.names))))
