use Rattle.std.proofs.Common.{◌∙◌, ap, List, ℕ, [], ◌∷◌}
use Rattle.fixed_place.specs.Text.{text_of}
use Rattle.sheet_words.proofs.Written.{renamed}
use Rattle.sheet_words.proofs.elections.say_quota.Goals as goal

pub returns : goal.returns
returns g c =
    renamed _ _ _ _ _ _ _ _
    (ap (λ (l : List ℕ). c.for_one_or_more-reach.result.now ∷ l ∷ c.args.behind.now ∷ [])
    (c.bytes.ensures.value ∙ c.votes_text-votes.ensures)
    ∙ ap (λ (l : List ℕ). l ∷ text_of g.row.P c.args.quota ∷ c.args.behind.now ∷ []) c.for_one_or_more-reach.ensures)
    c.say_parts.ensures
