-- An election as a file says it.
use Rattle.std.specs.Prelude.{List}
use Rattle.plain_ballots.specs.declared.ballot_line.BallotLine.{BallotLine}
use Rattle.candidate_roll.specs.Roll.{RollList}

-- the roll, and the lines of ballots in the order of the file
pub record Poll : Type 0 where
  pub roll : RollList
  pub lines : List BallotLine
