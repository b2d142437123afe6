use Rattle.std.proofs.Common.{◌∙◌, ap, ℕ}
use Rattle.std.specs.Prelude.{codes}
use Rattle.meek_rule.specs.Row.{Row}
use Rattle.sheet_words.specs.Sentences.{at_quota}
use Rattle.sheet_words.proofs.Written.{later, renamed, stops}
use Rattle.sheet_words.proofs.elections.say_arrival.Goals as goal

pub returns-in_err-say_listing : goal.returns-in_err-say_listing
returns-in_err-say_listing g c = stops _ _ _ _ c.from_residual.ensures.0 c.in_err-say_listing.ensures

pub returns : goal.returns
returns g c =
    later _ _ _ _ _ c.in_ok-say_listing.ensures
    (renamed _ _ _ _ _ _ _ _
    (ap (λ (r : Row). at_quota g.row.P c.members.result r.quota (codes ".")) c.row.view_is
    ∙ ap (λ (n : ℕ). at_quota g.row.P n c.args.row.now.quota (codes ".")) c.members.ensures)
    c.say_quota.ensures)
