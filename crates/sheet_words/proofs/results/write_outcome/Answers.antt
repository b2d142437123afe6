use Rattle.std.proofs.Common.{◌∙◌, ap, ◌+◌, ℕ, List, [], ◌∷◌, ◌++◌}
use Rattle.candidate_roll.specs.State.{state_at}
use Rattle.sheet_reader.specs.Values.{SheetList}
use Rattle.sheet_words.specs.Phrases.{called, numbered_name}
use Rattle.sheet_words.specs.Sentences.{fate}
use Rattle.sheet_words.proofs.Written.{name_is, retold}
use Rattle.sheet_words.proofs.results.write_outcome.Goals as goal

pub returns : goal.returns
returns g c =
    let v = c.args.values.now in
    let p = c.args.p in
    let name = c.bytes-name.ensures.value ∙ name_is v _ p c.get.result.now c.values.view_is c.get.ensures in
    let state = c.get-2.ensures.state ∙ ap (λ (w : SheetList). state_at w.last p) c.values.view_is in
    retold _ _ _ _ _ _ _ _
    (ap (λ (l : List ℕ). numbered_name l (p + 1) ++ c.fate.result.now ∷ []) name
    ∙ ap (λ (l : List ℕ). called v p ++ l ∷ []) (c.fate.ensures ∙ ap fate state)) c.write_parts.ensures
