-- A text as its lines; 10 is the line feed that ends a line.
use Rattle.std.specs.Prelude.{◌≡◌, ℕ, ◌==◌, if◌then◌else◌, List, [], ◌∷◌}
use Rattle.sheet_text.specs.Lines.{text_of_lines}

-- a byte in front of the first line; without a line feed there is none
abbrev pub in_front : ℕ → List (List ℕ) → List (List ℕ)
in_front b [] = []
in_front b (line ∷ lines) = (b ∷ line) ∷ lines

-- the lines that end in a text; what is after the last line feed is no line
abbrev pub lines_in : List ℕ → List (List ℕ)
lines_in [] = []
lines_in (b ∷ bytes) = if b == 10 then [] ∷ lines_in bytes else in_front b (lines_in bytes)

-- the text consists of its lines
abbrev pub IsOfLines : List ℕ → Type 0
IsOfLines text = text ≡ text_of_lines (lines_in text)
