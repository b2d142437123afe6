use Rattle.std.proofs.Common.{sym, subst, ℕ, List, [], ◌∷◌, ◌++◌, map, append-nil}
use Rattle.std.specs.Prelude.{codes}
use Rattle.std.specs.List.{flat_map}
use Rattle.candidate_roll.specs.declared.state.State.{State}
use Rattle.piece_text.specs.Writing.{Writes}
use Rattle.sheet_words.specs.Lines.{at_end}
use Rattle.sheet_words.specs.Manner.{told}
use Rattle.sheet_words.specs.Phrases.{called}
use Rattle.sheet_words.specs.Sentences.{late}
use Rattle.sheet_words.proofs.end.write_late.Goals as goal

pub returns-in-Elected : goal.returns-in-Elected
returns-in-Elected g c =
    let v = c.args.values.now in
    let p = c.args.p in
    let texts = at_end (called v p ++ codes " is elected: there is a seat for each who remains." ∷ []) in
    subst (λ (state : State). Writes g.K.Sink.written g.K.Sink.faults c.args.sink.now c.write_seat.new.sink
    (flat_map (told g.V.Voice.manner) (map at_end (late v p state))) c.write_seat.result) (sym c.in-Elected.is)
    (subst (λ (l : List ℕ). Writes g.K.Sink.written g.K.Sink.faults c.args.sink.now c.write_seat.new.sink l
    c.write_seat.result)
    (sym (append-nil (told g.V.Voice.manner texts))) c.write_seat.ensures)
