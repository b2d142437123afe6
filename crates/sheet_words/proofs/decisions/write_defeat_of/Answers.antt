use Rattle.std.proofs.Common.{◌∙◌, ap, sym, subst, Bool, List, [], ◌∷◌, map}
use Rattle.std.specs.Prelude.{if◌then◌else◌}
use Rattle.std.specs.List.{flat_map}
use Rattle.piece_text.specs.Writing.{Writes}
use Rattle.sheet_words.specs.declared.decision.Decision.{Decision}
use Rattle.sheet_words.specs.declared.decision.Decision.TheVariants.{Defeat, Lot, Tie}
use Rattle.sheet_words.specs.Lines.{numbered}
use Rattle.sheet_words.specs.Manner.{told}
use Rattle.sheet_words.proofs.decisions.write_defeat_of.Goals as goal

pub returns-then-has_tie : goal.returns-then-has_tie
returns-then-has_tie g c =
    let is = sym c.has_tie.ensures ∙ c.if-has_tie.true in
    subst (λ (ds : List Decision). Writes g.K.Sink.written g.K.Sink.faults c.args.sink.now c.write_two.new.sink
    (flat_map (told g.V.Voice.manner) (map (numbered g.row.P c.args.values.now c.args.row.now) ds)) c.write_two.result)
    (sym (ap (λ (b : Bool). if b then Tie ∷ Lot c.args.c ∷ [] else Defeat c.args.c ∷ []) is)) c.write_two.ensures

pub returns : goal.returns
returns g c =
    let is = sym c.has_tie.ensures ∙ c.if-has_tie.false in
    subst (λ (ds : List Decision). Writes g.K.Sink.written g.K.Sink.faults c.args.sink.now c.write_one.new.sink
    (flat_map (told g.V.Voice.manner) (map (numbered g.row.P c.args.values.now c.args.row.now) ds)) c.write_one.result)
    (sym (ap (λ (b : Bool). if b then Tie ∷ Lot c.args.c ∷ [] else Defeat c.args.c ∷ []) is)) c.write_one.ensures
