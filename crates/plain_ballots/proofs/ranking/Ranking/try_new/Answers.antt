use Rattle.std.proofs.Common.{arith}
use Rattle.std.proofs.lemmas.Bool.{eqb-false}
use Rattle.plain_ballots.proofs.RankingLemmas.{ranking_more}
use Rattle.plain_ballots.proofs.ranking.Ranking.try_new.Goals as goal

pub loop-i-preserved : goal.loop-i-preserved
loop-i-preserved c =
    ranking_more _ _ _ c.loop-i.invariant (omega arith) (omega arith, omega arith)
    (λ k d below. eqb-false _ _ (c.if-contains.ensures.cases k d (omega arith) below))
