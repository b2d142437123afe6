use Rattle.std.proofs.Common.{◌∙◌, ap, ℕ, List}
use Rattle.std.specs.Prelude.{codes}
use Rattle.meek_rule.specs.Row.{Row}
use Rattle.sheet_words.specs.Phrases.{for_one_or_more}
use Rattle.sheet_words.specs.Sentences.{at_quota}
use Rattle.sheet_words.proofs.Written.{later, renamed, stops}
use Rattle.sheet_words.proofs.elections.say_election.Goals as goal

abbrev words : ℕ → List ℕ
words count =
    for_one_or_more (codes " and is elected.")
    (codes " and are elected.") count

pub returns-in_err-say_listing : goal.returns-in_err-say_listing
returns-in_err-say_listing g c = stops _ _ _ _ c.from_residual.ensures.0 c.in_err-say_listing.ensures

pub returns : goal.returns
returns g c =
    let quota = c.args.row.now.quota in
    later _ _ _ _ _ c.in_ok-say_listing.ensures
    (renamed _ _ _ _ _ _ _ _
    (ap (λ (r : Row). at_quota g.row.P c.members-winners.result r.quota c.for_one_or_more-seated.result.now) c.row.view_is
    ∙ ap (λ (l : List ℕ). at_quota g.row.P c.members-winners.result quota l) c.for_one_or_more-seated.ensures
    ∙ ap (λ (n : ℕ). at_quota g.row.P n quota (words n)) c.members-winners.ensures)
    c.say_quota.ensures)
