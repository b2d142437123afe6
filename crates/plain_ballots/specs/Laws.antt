-- What holds of all ranks.
use Rattle.std.specs.Prelude.{◌≡◌, ℕ, List}
use Rattle.plain_ballots.specs.declared.rank_stop.RankStop.{RankStop}
use Rattle.plain_ballots.specs.Ranking.{IsRankStop}

-- There is one answer at most: ranks can't be refused for two reasons, nor at two places.
abbrev pub HasOneRefusal : Type 0
HasOneRefusal =
    (n : ℕ) (ranks : List ℕ) (one other : RankStop)
    → IsRankStop n ranks one → IsRankStop n ranks other → one ≡ other
