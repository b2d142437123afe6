use Rattle.std.proofs.Common.{◌∙◌, ap, List, ℕ, ◌-◌, [], ◌∷◌, slice_index}
use Rattle.std.specs.Prelude.{codes}
use Rattle.fixed_place.specs.Text.{text_of}
use Rattle.meek_rule.specs.Row.{Row}
use Rattle.sheet_words.proofs.Written.{later, renamed, stops}
use Rattle.sheet_words.proofs.sentences.say_defeat.Goals as goal

pub returns-in_err-say_called : goal.returns-in_err-say_called
returns-in_err-say_called g c = stops _ _ _ _ c.from_residual.ensures.0 c.in_err-say_called.ensures

pub returns : goal.returns
returns g c =
    let vote = c.get.ensures ∙ ap (λ (row : Row). slice_index row.votes (c.args.c - 1)) c.row.view_is in
    later _ _ _ _ _ c.in_ok-say_called.ensures
    (renamed _ _ _ _ _ _ _ _
    (ap (λ (l : List ℕ). codes " has the fewest votes, " ∷ l ∷ codes ", and is defeated." ∷ [])
    (c.bytes.ensures.value ∙ c.votes_text-votes.ensures ∙ ap (λ (n : ℕ). text_of g.row.P n) vote))
    c.say_parts.ensures)
