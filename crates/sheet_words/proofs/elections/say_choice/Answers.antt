use Rattle.std.proofs.Common.{◌∙◌, ap, ℕ, List, [], ◌∷◌}
use Rattle.std.specs.Prelude.{codes}
use Rattle.sheet_words.specs.declared.group.Group.TheVariants.{Elected}
use Rattle.sheet_words.specs.Groups.{members}
use Rattle.sheet_words.specs.Phrases.{for_one_or_more}
use Rattle.sheet_words.proofs.Written.{later, renamed, stops}
use Rattle.sheet_words.proofs.elections.say_choice.Goals as goal

abbrev words : ℕ → List ℕ
words count =
    for_one_or_more (codes " is elected")
    (codes " are elected") count

pub returns-in_err-say_seats : goal.returns-in_err-say_seats
returns-in_err-say_seats g c = stops _ _ _ _ c.from_residual.ensures.0 c.in_err-say_seats.ensures

pub returns-in_err-say_listing : goal.returns-in_err-say_listing
returns-in_err-say_listing g c =
    later _ _ _ _ _ c.in_ok-say_seats.ensures
    (stops _ _ _ _ c.from_residual-in_err-say_listing.ensures.0 c.in_err-say_listing.ensures)

pub returns : goal.returns
returns g c =
    later _ _ _ _ _ c.in_ok-say_seats.ensures
    (later _ _ _ _ _ c.in_ok-say_listing.ensures
    (renamed _ _ _ _ _ _ _ _ (ap (λ (l : List ℕ). l ∷ c.reason.result.now ∷ [])
    (c.for_one_or_more-seated.ensures ∙ ap words c.members.ensures)
    ∙ ap (λ (l : List ℕ). words (members c.args.row.now Elected) ∷ l ∷ []) c.reason.ensures) c.say_parts.ensures))
