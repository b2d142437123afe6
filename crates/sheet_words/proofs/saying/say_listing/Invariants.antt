use Rattle.std.proofs.Common.{length, take}
use Rattle.std.specs.List.{flat_map}
use Rattle.piece_text.specs.Writing.{Wrote}
use Rattle.sheet_words.specs.Groups.{all_places}
use Rattle.sheet_words.specs.Manner.{said}
use Rattle.sheet_words.specs.Phrases.{member}
use Rattle.sheet_words.proofs.saying.say_listing.Given as goal

abbrev pub invariant-loop-p : goal.invariant-loop-p
invariant-loop-p g l =
    Wrote g.K.Sink.written g.K.Sink.faults l.initial.sink l.sink
    (flat_map (λ p. said g.V.Voice.manner (member g.row.P l.values l.fn.row l.group p)) (take l.p (all_places (length l.fn.row.states))))
