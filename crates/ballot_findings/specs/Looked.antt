-- What one pass over the lines of a file comes to.
use Rattle.std.specs.Prelude.{◌≡◌, List, length}
use Rattle.plain_ballots.specs.declared.ballot_line.BallotLine.{BallotLine}
use Rattle.candidate_roll.specs.Roll.{RollList}
use Rattle.ballot_findings.specs.declared.looking.Looked.{Looked}
use Rattle.ballot_findings.specs.Counts.{Figures, repeats}
use Rattle.ballot_findings.specs.Tally.{IsTally, tallied}

-- the figures of what was counted
abbrev pub figures_of : Looked → Figures
figures_of looked = tallied looked.lines looked.repeats looked.tally

-- this is what the lines of a file with this roll come to
pub record IsLooked (roll : RollList) (lines : List BallotLine) (looked : Looked) : Type 0 where
  pub lines_are : looked.lines ≡ length lines
  pub repeats_are : looked.repeats ≡ repeats lines
  pub tally : IsTally (length roll.names) roll.withdrawn lines looked.tally
