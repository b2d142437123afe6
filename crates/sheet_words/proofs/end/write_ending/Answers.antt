use Rattle.std.proofs.Common.{ap, ℕ, List, [], ◌∷◌}
use Rattle.sheet_words.specs.Lines.{at_end}
use Rattle.sheet_words.proofs.Written.{retold}
use Rattle.sheet_words.proofs.end.write_ending.Goals as goal

pub returns : goal.returns
returns g c =
    retold _ _ _ _ _ _ _ _ (ap (λ (l : List ℕ). at_end (l ∷ [])) c.ending.ensures) c.write_parts.ensures
