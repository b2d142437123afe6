-- An input that is the text of a day and after it a day file. A text ends with the line `end` of its last sheet; 10 is
-- the line feed.
use Rattle.std.specs.Prelude.{◌≡◌, ℕ, ◌+◌, ◌<◌, List, take, drop, codes}
use Rattle.sheet_check.specs.Input.{HasEndAt}

-- the line of a further sheet begins there
abbrev pub GoesOn : List ℕ → Type 0
GoesOn text = take 6 text ≡ codes "sheet "

-- A line `end` is at this place, and no further sheet after it.
pub record IsLastEnd (input : List ℕ) (at : ℕ) : Type 0 where
  pub stands : HasEndAt input at
  pub last : ¬ GoesOn (drop (at + 4) input)

-- Such a line stands nowhere in the input.
abbrev pub HasNoLastEnd : List ℕ → Type 0
HasNoLastEnd input = (at : ℕ) → ¬ IsLastEnd input at

-- The text is the input up to and including the first such line, and the file is all after it.
pub record IsDaySplit (input text file : List ℕ) : Type 0 where
  pub at : ℕ
  pub ends : IsLastEnd input at
  pub none_before : (k : ℕ) → k < at → ¬ IsLastEnd input k
  pub text_is : text ≡ take (at + 4) input
  pub file_is : file ≡ drop (at + 4) input
