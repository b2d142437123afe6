-- What is written of several lists of lines.
use Rattle.std.specs.Prelude.{ℕ, List, Option, Result}
use Rattle.std.specs.List.{flat_map}
use Rattle.piece_text.specs.Writing.{Writes}
use Rattle.plain_ballots.specs.declared.ballot_line.BallotLine.{BallotLine}
use Rattle.blt_writer.specs.Order.{AreLinesOf}
use Rattle.blt_writer.specs.Text.{ballot_text}

-- the lines of a bag of ballots were written, or a front of their text
pub record WritesLines {S T E : Type 0} (written : S → Option (List ℕ)) (faults : S → ℕ) (old new : S) (ballots : List (List ℕ)) (result : Result T E) : Type 0 where
  pub lines : List BallotLine
  pub are : AreLinesOf ballots lines
  pub writes : Writes written faults old new (flat_map ballot_text lines) result
