use Rattle.std.proofs.Common.{◌∙◌, ap, ℕ, List, [], ◌∷◌}
use Rattle.std.specs.Prelude.{codes}
use Rattle.sheet_words.specs.Phrases.{for_one_or_more}
use Rattle.sheet_words.proofs.Written.{later, renamed, stops}
use Rattle.sheet_words.proofs.sentences.say_cap.Goals as goal

abbrev words : ℕ → List ℕ
words count =
    for_one_or_more (codes " has its keep value capped at one whole vote.")
    (codes " have their keep values capped at one whole vote.") count

pub returns-in_err-say_listing : goal.returns-in_err-say_listing
returns-in_err-say_listing g c = stops _ _ _ _ c.from_residual.ensures.0 c.in_err-say_listing.ensures

pub returns : goal.returns
returns g c =
    later _ _ _ _ _ c.in_ok-say_listing.ensures
    (renamed _ _ _ _ _ _ _ _
    (ap (λ (l : List ℕ). l ∷ []) (c.for_one_or_more-held.ensures ∙ ap words c.members.ensures))
    c.say_parts.ensures)
