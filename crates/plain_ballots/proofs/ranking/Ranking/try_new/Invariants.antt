use Rattle.std.proofs.Common.{take}
use Rattle.plain_ballots.specs.Ranking.{IsRanking}
use Rattle.plain_ballots.proofs.ranking.Ranking.try_new.Given as goal

abbrev pub invariant-loop-i : goal.invariant-loop-i
invariant-loop-i l = IsRanking l.candidates (take l.i l.ranks)
