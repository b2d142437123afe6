use Rattle.std.proofs.Common.{◌∙◌, ap, ◌+◌, ℕ, List, [], ◌∷◌, ◌++◌}
use Rattle.sheet_words.specs.Lines.{at_end}
use Rattle.sheet_words.specs.Phrases.{numbered_name}
use Rattle.sheet_words.proofs.Written.{name_is, retold}
use Rattle.sheet_words.proofs.end.write_seat.Goals as goal

pub returns : goal.returns
returns g c =
    let p = c.args.p in
    let name = c.bytes-name.ensures.value ∙ name_is c.args.values.now _ p c.get.result.now c.values.view_is c.get.ensures in
    retold _ _ _ _ _ _ _ _
    (ap (λ (l : List ℕ). at_end (numbered_name l (p + 1) ++ c.args.words.now ∷ [])) name) c.write_parts.ensures
