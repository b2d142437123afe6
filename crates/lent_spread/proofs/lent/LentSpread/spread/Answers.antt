use Rattle.std.proofs.Common.{◌≡◌, subst}
use Rattle.fixed_place.specs.Rounding.{scale}
use Rattle.meek_rule.specs.Rule.{Rule}
use Rattle.meek_rule.specs.Weights.{votes_under}
use Rattle.lent_spread.proofs.lent.LentSpread.spread.Goals as goal

-- what is borrowed distributes by Meek's rule
pub returns-clause-votes : goal.returns-clause-votes
returns-clause-votes g c =
    subst
    (λ (rule : Rule). c.spread.new.tally
    ≡ votes_under rule (scale g.row.P) c.args.keeps.now (g.D.Spread.ballots c.args.self.now.spread.now)
    (g.D.Spread.candidates c.args.self.now.spread.now))
    c.requires.can.0 c.spread.ensures.votes
