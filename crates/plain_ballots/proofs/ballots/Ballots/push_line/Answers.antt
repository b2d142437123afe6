use Rattle.std.proofs.Common.{ℕ, arith, subst, sym, ap}
use Rattle.plain_ballots.specs.Ballots.{BallotList}
use Rattle.plain_ballots.specs.Ranking.{IsRanking}
use Rattle.plain_ballots.proofs.BallotsLemmas.{IsSound-push, ballot_count-push}
use Rattle.plain_ballots.proofs.ballots.Ballots.push_line.Goals as goal

-- with the line after it the list is sound, and its total is the sum
pub invariant_of-self : goal.invariant_of-self
invariant_of-self c =
    let candidates = ap (λ (b : BallotList). b.candidates) (sym c.self.view_is) in
    let ranking = subst (λ (n : ℕ). IsRanking n c.args.line.ranking) candidates c.requires.ranking in
    rw c.in-Ok.ensures.items (
      IsSound-push _ _ _ c.self.invariant.0 ranking c.requires.counted (omega (arith, c.self.invariant.1)),
      omega (arith, c.self.invariant.1, ballot_count-push c.self.inside.lines.items c.args.line),
    )
