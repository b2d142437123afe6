-- The sheets in the text of a day, one by one. 10 ends a line.
use Rattle.std.specs.Prelude.{◌≡◌, ◌≢◌, ℕ, List, ◌++◌, All, codes}
use Rattle.sheet_text.specs.Lines.{ended, text_of_lines}
use Rattle.sheet_reader.specs.Cut.{IsWithout}
use Rattle.day_text.specs.Form.{IsPrintableSheet, sheet_places}
use Rattle.day_text.specs.Values.{FrozenSheet, sheet_text, sheets_text}

-- a line within a sheet: it is not the line that ends it
pub record IsInner (line : List ℕ) : Type 0 where
  pub whole : IsWithout 10 line
  pub other : line ≢ codes "end"

-- The sheet is the text up to and including its first line `end`.
pub record IsSheetCut (text sheet rest : List ℕ) : Type 0 where
  pub front : List (List ℕ)
  pub inner : All IsInner front
  pub sheet_is : sheet ≡ text_of_lines front ++ ended (codes "end")
  pub text_is : text ≡ sheet ++ rest

-- The text begins with the sheet of the freeze of this line.
pub record BeginsWithSheet (places n : ℕ) (text : List ℕ) (s : FrozenSheet) (rest : List ℕ) : Type 0 where
  pub freeze : s.freeze ≡ n
  pub printable : IsPrintableSheet places s
  pub text_is : text ≡ sheet_text places s ++ rest

-- The text begins with the sheets of the freezes of these lines.
pub record BeginsWithSheets (places : ℕ) (freezes : List ℕ) (text : List ℕ) (sheets : List FrozenSheet) (rest : List ℕ) : Type 0 where
  pub freezes_are : sheet_places sheets ≡ freezes
  pub printable : All (IsPrintableSheet places) sheets
  pub text_is : text ≡ sheets_text places sheets ++ rest
