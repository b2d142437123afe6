use Rattle.std.proofs.Common.{length, take}
use Rattle.std.specs.List.{flat_map}
use Rattle.piece_text.specs.Writing.{Wrote}
use Rattle.sheet_words.specs.Groups.{all_places}
use Rattle.sheet_words.specs.Manner.{told}
use Rattle.sheet_words.specs.Sentences.{outcome}
use Rattle.sheet_words.proofs.results.write_outcomes.Given as goal

abbrev pub invariant-loop-p : goal.invariant-loop-p
invariant-loop-p g l =
    Wrote g.K.Sink.written g.K.Sink.faults l.initial.sink l.sink
    (flat_map (λ p. told g.V.Voice.manner (outcome l.values p)) (take l.p (all_places (length l.values.names))))
