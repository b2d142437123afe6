-- Where something is in a file, as people say it: a line and a column, both from 1. 10 is a line feed, 13 a carriage return.
use Rattle.std.specs.Prelude.{◌≡◌, ◌≤◌, ℕ, ◌+◌, ◌-◌, ◌==◌, Bool, not, ◌&&◌, ◌||◌, List, length, take, reverse, slice_index}
use Rattle.std.specs.List.{count_by, prefix_len, range_with_len}
use Rattle.ballot_findings.specs.declared.mark.Mark.{Mark}

abbrev pub is_break : (byte : ℕ) → Bool
is_break byte = byte == 10 || byte == 13

-- A line ends at this byte of the text: a carriage return, or a line feed that isn't right after one.
abbrev pub ends_line : (text : List ℕ) → (p : ℕ) → Bool
ends_line text p = slice_index text p == 13 || (slice_index text p == 10 && not (slice_index text (p - 1) == 13))

-- the line of a place: the line ends before it, and one
abbrev pub line_at : (text : List ℕ) → (place : ℕ) → ℕ
line_at text place = 1 + count_by (ends_line text) (range_with_len 0 place)

-- the column of a place: the bytes before it, back to the nearest that breaks a line, and one
abbrev pub column_at : (text : List ℕ) → (place : ℕ) → ℕ
column_at text place = 1 + prefix_len (λ byte. not (is_break byte)) (reverse (take place text))

-- the mark has the line and the column of its place in the text
pub record IsMark (text : List ℕ) (mark : Mark) : Type 0 where
  pub inside : mark.at ≤ length text
  pub line : mark.line ≡ line_at text mark.at
  pub column : mark.column ≡ column_at text mark.at
  pub few_lines : mark.line ≤ mark.at + 1
  pub few_columns : mark.column ≤ mark.at + 1

-- the mark has the line and the column of this place, also where it is after the text
pub record IsMarkOf (text : List ℕ) (place : ℕ) (mark : Mark) : Type 0 where
  pub is : IsMark text mark
  pub line : mark.line ≡ line_at text place
  pub column : mark.column ≡ column_at text place
