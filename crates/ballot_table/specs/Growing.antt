-- Ballots to which rows are added.
use Rattle.std.specs.Prelude.{ℕ, ◌≤◌, Option, Some, None, ⊤}
use Rattle.plain_ballots.specs.declared.ballot_line.BallotLine.{BallotLine}
use Rattle.plain_ballots.specs.Ranking.{IsRanking}

-- The line that is still open, if one is, is a line of ballots among n candidates.
abbrev pub IsLast : ℕ → Option BallotLine → Type 0
IsLast n None = ⊤
IsLast n (Some line) = IsRanking n line.ranking × (1 ≤ line.count)
