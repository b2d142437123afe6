-- What a call did that hands lines to a sink.
use Rattle.std.specs.Prelude.{◌≡◌, ℕ, List, Option, Result, Ok, Err}
use Rattle.std.specs.Io.KnownBytes.{Appends}
use Rattle.byte_edge.specs.Bytes.{AppendsFront}
use Rattle.byte_edge.specs.Faults.{Rose}
use Rattle.sheet_text.specs.Lines.{text_of_lines}

-- all the lines were appended, and no fault was counted
pub record Wrote {S : Type 0} (written : S → Option (List ℕ)) (faults : S → ℕ) (old new : S) (lines : List (List ℕ)) : Type 0 where
  pub whole : Appends (written old) (written new) (text_of_lines lines)
  pub calm : faults new ≡ faults old

-- some front of the lines was appended, and a fault was counted
pub record Stopped {S : Type 0} (written : S → Option (List ℕ)) (faults : S → ℕ) (old new : S) (lines : List (List ℕ)) : Type 0 where
  pub part : AppendsFront (written old) (written new) (text_of_lines lines)
  pub rose : Rose (faults old) (faults new)

-- Ok wrote all the lines; a failure stopped within them.
abbrev pub Writes : {S T E : Type 0} → (S → Option (List ℕ)) → (S → ℕ) → S → S → List (List ℕ) → Result T E → Type 0
Writes written faults old new lines (Ok value) = Wrote written faults old new lines
Writes written faults old new lines (Err stop) = Stopped written faults old new lines
