use Rattle.std.proofs.Common.{◌∙◌, ap, subst, ℕ, List}
use Rattle.std.specs.List.{flat_map}
use Rattle.std.proofs.lemmas.List.{take_all}
use Rattle.sheet_words.specs.declared.part.Part.{Part}
use Rattle.sheet_words.specs.Parts.{part_text}
use Rattle.piece_text.specs.Writing.{Wrote, Writes}
use Rattle.piece_text.proofs.Written.{wrote_nothing, wrote_more, stopped_at}
use Rattle.sheet_words.proofs.Written.{said-map}
use Rattle.sheet_words.proofs.saying.say_parts.Goals as goal

pub loop-part-init : goal.loop-part-init
loop-part-init g c = wrote_nothing _ _ _

pub loop-part-preserved : goal.loop-part-preserved
loop-part-preserved g c =
    wrote_more (λ part. g.V.Voice.manner.voiced (part_text part)) c.args.parts.now c.loop-part.part-index _
    c.loop-part-test.true c.loop-part.invariant c.in_ok-say_part.ensures

pub returns-in_err-say_part : goal.returns-in_err-say_part
returns-in_err-say_part g c =
    subst (λ (l : List ℕ). Writes g.K.Sink.written g.K.Sink.faults c.args.sink.now c.say_part.new.sink l
    c.from_residual.result)
    (said-map g.V.Voice.manner part_text c.args.parts.now)
    (stopped_at (λ part. g.V.Voice.manner.voiced (part_text part)) c.args.parts.now c.loop-part.part-index _
    c.from_residual.result c.from_residual.ensures.0 c.loop-part-test.true c.loop-part.invariant
    c.in_err-say_part.ensures)

pub returns : goal.returns
returns g c =
    let past = take_all c.loop-part.part-index c.args.parts.now c.loop-part-test.false in
    subst (λ (l : List ℕ). Wrote g.K.Sink.written g.K.Sink.faults c.args.sink.now c.loop-part.sink l)
    (ap (flat_map (λ (part : Part). g.V.Voice.manner.voiced (part_text part))) past
    ∙ said-map g.V.Voice.manner part_text c.args.parts.now)
    c.loop-part.invariant
