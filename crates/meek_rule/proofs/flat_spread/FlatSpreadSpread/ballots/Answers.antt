use Rattle.std.proofs.Common.{sym, ◌∙◌, ap}
use Rattle.plain_ballots.specs.Ballots.{BallotList, ballot_count}
use Rattle.meek_rule.proofs.WeightLemmas.{length-plain}
use Rattle.meek_rule.proofs.flat_spread.FlatSpreadSpread.ballots.Goals as goal

pub returns : goal.returns
returns g c =
    c.total.ensures
    ∙ (ap (λ (b : BallotList). ballot_count b.lines) c.self.view_is
    ∙ sym (length-plain c.args.self.now.lines))
