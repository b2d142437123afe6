use Rattle.std.proofs.Common.{◌∙◌, ap, List, ℕ, [], ◌∷◌}
use Rattle.std.specs.Prelude.{codes}
use Rattle.sheet_words.proofs.Written.{renamed}
use Rattle.sheet_words.proofs.saying.say_votes.Goals as goal

pub returns : goal.returns
returns g c =
    renamed _ _ _ _ _ _ _ _
    (ap (λ (l : List ℕ). codes " with " ∷ l ∷ codes " votes" ∷ c.args.behind.now ∷ []) (c.bytes.ensures.value ∙ c.votes_text-text.ensures))
    c.say_with_votes.ensures
