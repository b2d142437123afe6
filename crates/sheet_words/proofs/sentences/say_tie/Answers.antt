use Rattle.std.proofs.Common.{◌∙◌, ap, List, ℕ, [], ◌∷◌}
use Rattle.std.specs.Prelude.{codes}
use Rattle.sheet_words.specs.Sentences.{within_surplus}
use Rattle.sheet_words.proofs.Written.{later, renamed, stops}
use Rattle.sheet_words.proofs.sentences.say_tie.Goals as goal

pub returns-in_err-say_listing : goal.returns-in_err-say_listing
returns-in_err-say_listing g c = stops _ _ _ _ c.from_residual.ensures.0 c.in_err-say_listing.ensures

pub returns : goal.returns
returns g c =
    later _ _ _ _ _ c.in_ok-say_listing.ensures
    (renamed _ _ _ _ _ _ _ _
    (ap (λ (l : List ℕ). codes " are tied: their votes are no further apart than the surplus of " ∷ l ∷ codes "." ∷ [])
    (c.bytes.ensures.value ∙ c.votes_text-surplus.ensures)
    ∙ ap (within_surplus g.row.P) c.row.view_is) c.say_parts.ensures)
