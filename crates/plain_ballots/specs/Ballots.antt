-- A list of ballots in lines of equal ones.
use Rattle.std.specs.Prelude.{◌≡◌, ℕ, ◌≤◌, List, sum_by, replicate, All}
use Rattle.std.specs.List.{flat_map}
use Rattle.plain_ballots.specs.declared.limits.TheConstants.{MOST_BALLOTS}
use Rattle.plain_ballots.specs.declared.ballot_line.BallotLine.{BallotLine}
use Rattle.plain_ballots.specs.declared.line_stop.LineStop.{LineStop}
use Rattle.plain_ballots.specs.declared.line_stop.LineStop.TheVariants.{TooMany, NoMemory}
use Rattle.plain_ballots.specs.Ranking.{IsRanking}

-- lines of ballots among so many candidates
pub record BallotList : Type 0 where
  pub candidates : ℕ
  pub lines : List BallotLine

-- the number of all ballots
abbrev pub ballot_count : List BallotLine → ℕ
ballot_count lines = sum_by (λ line. line.count) lines

-- the single ballots: each line's ranking stands as often as its count says
abbrev pub plain : List BallotLine → List (List ℕ)
plain lines = flat_map (λ line. replicate line.count line.ranking) lines

-- lines of rankings of n candidates, each line of at least one ballot, and not too many
pub record IsSound (n : ℕ) (lines : List BallotLine) : Type 0 where
  pub rankings : All (λ line. IsRanking n line.ranking) lines
  pub counted : All (λ line. 1 ≤ line.count) lines
  pub bounded : ballot_count lines ≤ MOST_BALLOTS

-- a refusal hands this line back
abbrev pub HandsBack : BallotLine → LineStop → Type 0
HandsBack line (TooMany back) = back ≡ line
HandsBack line (NoMemory back) = back ≡ line
