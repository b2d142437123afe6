-- What is written of an export.
use Rattle.std.specs.Prelude.{ℕ, List, Option, Result}
use Rattle.piece_text.specs.Writing.{Writes}
use Rattle.blt_writer.specs.Exported.{Exported}
use Rattle.blt_writer.specs.Text.{IsBltText}

-- Ok wrote the text of the export's ballots under its roll; a failure stopped within it.
pub record WritesText {S T E : Type 0} (written : S → Option (List ℕ)) (faults : S → ℕ) (old new : S) (export : Exported) (result : Result T E) : Type 0 where
  pub text : List ℕ
  pub is : IsBltText export.ballots export.roll text
  pub writes : Writes written faults old new text result
