-- How a text is read from the left: the lines and the parts that are still to come.
use Rattle.std.specs.Prelude.{◌≡◌, ℕ, ◌+◌, ◌-◌, ◌==◌, min, true, false, List, [], ◌∷◌, length, take, drop}
use Rattle.std.specs.Prelude.{slice_index, Option, Some, None}
use Rattle.std.specs.List.{slice_split, filter_map, range_with_len}
use Rattle.std.specs.Option.{option_map}
use Rattle.plain_ballots.specs.declared.limits.TheConstants.{MOST_BALLOTS}
use Rattle.preflib_text.specs.declared.entry.Key.{Key}
use Rattle.preflib_text.specs.declared.entry.Key.TheVariants as key
use Rattle.preflib_text.specs.declared.part.Part.{Part}
use Rattle.preflib_text.specs.declared.part.Part.TheVariants as code
use Rattle.preflib_text.specs.declared.part.Found.{Found}
use Rattle.preflib_text.specs.Faults.{Line}
use Rattle.preflib_text.specs.Lines.{lines_of}
use Rattle.preflib_text.specs.Metadata as metadata
use Rattle.preflib_text.specs.Parts as parts
use Rattle.preflib_text.specs.Texts.{is_digit}

-- all numbers above the most ballots are as good as the next one
abbrev pub capped : ℕ → ℕ
capped n = min n (MOST_BALLOTS + 1)

-- a key as the reader keeps it
abbrev pub kept_key : metadata.Key → Key
kept_key metadata.Alternatives = key.Alternatives
kept_key metadata.Voters = key.Voters
kept_key metadata.Title = key.Title
kept_key (metadata.Name n) = key.Name (option_map capped n)
kept_key metadata.Other = key.Other

-- the lines of a text from a place on, the first of which has this row
abbrev pub lines_from : List ℕ → (row at : ℕ) → List Line
lines_from bytes row at = lines_of row at (slice_split (λ b. b == 10) (drop at bytes))

-- a text, the row of its next line, and the lines that are still to come
pub record Coming : Type 0 where
  pub bytes : List ℕ
  pub row : ℕ
  pub rest : List Line

-- The next line was taken, or none was left.
abbrev pub Takes : Coming → Option Line → Coming → Type 0
Takes old (Some line) new = (old.rest ≡ line ∷ new.rest) × (new.bytes ≡ old.bytes) × (new.row ≡ old.row + 1)
Takes old None new = (old.rest ≡ []) × (new ≡ old)

-- where a text ends whose lines are all taken
abbrev pub end_of : Coming → Line
end_of coming = record { row = coming.row; at = length coming.bytes; bytes = [] }

-- all lines that were to come were taken
pub record AreAllRead (old new : Coming) : Type 0 where
  pub none_left : new.rest ≡ []
  pub row_is : new.row ≡ old.row + length old.rest
  pub bytes_are : new.bytes ≡ old.bytes

-- a part as the reader keeps it
abbrev pub kept : parts.Part → Part
kept (parts.Number n) = code.Number (capped n)
kept parts.Colon = code.Colon
kept parts.Comma = code.Comma
kept parts.Open = code.Open
kept parts.Close = code.Close
kept parts.Meta = code.Meta
kept parts.Wrong = code.Wrong
kept parts.End = code.End

-- the parts of a line from a place on
abbrev pub parts_from : List ℕ → (at : ℕ) → List parts.Placed
parts_from bytes at = filter_map (parts.part_at bytes) (range_with_len at (length bytes + 1 - at))

-- no number goes over a place
abbrev pub IsFresh : List ℕ → ℕ → Type 0
IsFresh bytes at = is_digit (slice_index bytes at) ≡ true → parts.ends_in_digit (take at bytes) ≡ false

-- the parts after a part: none are after the end
abbrev pub behind_part : List ℕ → Part → (stop : ℕ) → List parts.Placed
behind_part bytes code.End stop = []
behind_part bytes other stop = parts_from bytes stop

-- The first of the parts from a place on is this one.
pub record IsFirst (bytes : List ℕ) (from : ℕ) (found : Found) : Type 0 where
  pub part : parts.Part
  pub parts_are :
      parts_from bytes from ≡ record { at = found.at; part = part } ∷ behind_part bytes found.part found.stop
  pub kept_is : found.part ≡ kept part
