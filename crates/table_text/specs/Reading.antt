-- How a table is read from the left, up to its end or the first fault. 34 is the quote, 13 and 10 end a line, 9 is the tab.
use Rattle.std.specs.Prelude.{ℕ, ◌+◌, min, Bool, true, false, not, nat_lt, ◌==◌, ◌&&◌, if◌then◌else◌, List, [], ◌∷◌, ◌++◌, length, map, drop, nat_eq}
use Rattle.std.specs.List.{starts_with}
use Rattle.table_text.specs.declared.text_fault.TheConstants.{MAX_COUNT}
use Rattle.table_text.specs.declared.text_kind.TextKind.{TextKind}
use Rattle.table_text.specs.declared.text_kind.TextKind.TheVariants.{BadByte, BadQuote, EmptyLine, Ended}
use Rattle.table_text.specs.declared.text_fault.TextFault.{TextFault}
use Rattle.table_text.specs.declared.mark.Mark.{Mark}
use Rattle.table_text.specs.declared.mark.Mark.TheVariants as marks
use Rattle.table_text.specs.Spelling as spelling

-- ---- what was read

-- a field: the place of its first byte, and its bytes with its quotes
pub record Field : Type 0 where
  pub at : ℕ
  pub bytes : List ℕ

-- a record: its number from 1, the place of its first byte, the place after its last, and its fields
pub record Row : Type 0 where
  pub row : ℕ
  pub at : ℕ
  pub end : ℕ
  pub fields : List Field

-- how a text ends: as a table, or at the first fault
pub data Ending : Type 0 where
  AtEnd : Ending
  AtFault : (fault : TextFault) → Ending

pub record Reading : Type 0 where
  pub rows : List Row
  pub ending : Ending

abbrev pub ends : Ending → Reading
ends ending = record { rows = []; ending = ending }

abbrev pub with_row : Row → Reading → Reading
with_row row reading = record { rows = row ∷ reading.rows; ending = reading.ending }

-- ---- a field's text

-- What is within quotes. Of two quotes after one another the first is left out, and so is the closing one.
abbrev pub unquoted : (behind_quote : Bool) → List ℕ → List ℕ
unquoted behind_quote [] = []
unquoted true (b ∷ bytes) = b ∷ unquoted false bytes
unquoted false (b ∷ bytes) = if b == 34 then unquoted true bytes else b ∷ unquoted false bytes

abbrev pub field_text : List ℕ → List ℕ
field_text [] = []
field_text (b ∷ bytes) = if b == 34 then unquoted false bytes else b ∷ bytes

abbrev pub texts_of : List Row → List (List (List ℕ))
texts_of rows = map (λ row. map (λ field. field_text field.bytes) row.fields) rows

-- a quoted field
abbrev pub begins_with_quote : List ℕ → Bool
begins_with_quote [] = false
begins_with_quote (b ∷ bytes) = b == 34

-- ---- one byte

-- what of a field was read: nothing, bytes without a quote in front, an open quote and bytes, a quote within quotes; or
-- all of it and the first of the two bytes of a line end
pub data Part : Type 0 where
  Front : Part
  Plain : Part
  Within : Part
  BehindQuote : Part
  Return : Part

abbrev pub begins_with_feed : List ℕ → Bool
begins_with_feed [] = false
begins_with_feed (b ∷ rest) = b == 10

-- what a byte does outside quotes
abbrev pub mark : (separator b : ℕ) → (rest : List ℕ) → Mark
mark separator b rest =
    if b == 34 then marks.Quote
    else if b == separator then marks.Parts
    else if b == 10 then marks.Feeds
    else if b == 13 && begins_with_feed rest then marks.Returns
    else if nat_lt b 32 && not (b == 9) then marks.Wrong
    else marks.Inner

-- The byte belongs to the field, of which it leaves this part; parts two fields; ends the record; begins its line end; or is
-- wrong.
pub data Move : Type 0 where
  Takes : (part : Part) → Move
  Parts : Move
  Ends : Move
  Returns : Move
  Wrong : (kind : TextKind) → Move

-- a quote outside quotes
abbrev pub on_quote : Part → Move
on_quote Plain = Wrong BadQuote
on_quote other = Takes Within

-- any other byte of a field outside quotes
abbrev pub on_inner : Part → Move
on_inner BehindQuote = Wrong BadQuote
on_inner other = Takes Plain

abbrev pub by_mark : Part → Mark → Move
by_mark part marks.Quote = on_quote part
by_mark part marks.Parts = Parts
by_mark part marks.Feeds = Ends
by_mark part marks.Returns = Returns
by_mark part marks.Wrong = Wrong BadByte
by_mark part marks.Inner = on_inner part

abbrev pub within : (b : ℕ) → Move
within b = if b == 34 then Takes BehindQuote else if spelling.is_text b then Takes Within else Wrong BadByte

abbrev pub move : (separator : ℕ) → Part → (b : ℕ) → (rest : List ℕ) → Move
move separator Within b rest = within b
move separator Return b rest = Ends
move separator part b rest = by_mark part (mark separator b rest)

-- ---- a text

-- where a reader stands: the number and the place of the record, its fields so far, the place of the field that is being
-- formed, its bytes so far, and the part of it that they are
pub record Stand : Type 0 where
  pub row : ℕ
  pub start : ℕ
  pub fields : List Field
  pub from : ℕ
  pub bytes : List ℕ
  pub part : Part

abbrev pub first_field : (row at : ℕ) → Stand
first_field row at = record { row = row; start = at; fields = []; from = at; bytes = []; part = Front }

abbrev pub fields_with_last : Stand → List Field
fields_with_last stand = stand.fields ++ record { at = stand.from; bytes = stand.bytes } ∷ []

-- one more, up to the greatest number that a fault names
abbrev pub next_count : ℕ → ℕ
next_count n = min (n + 1) MAX_COUNT

abbrev pub fault : Stand → TextKind → (at : ℕ) → Reading
fault stand kind at =
    ends (AtFault (record { kind = kind; at = at; row = stand.row; column = next_count (length stand.fields) }))

-- A record of no bytes ends where it begins.
abbrev pub is_empty : Stand → Bool
is_empty stand = stand.from + length stand.bytes == stand.start

-- The record, before what is read after it. One of no bytes is refused at its place.
abbrev pub with_record : Stand → Reading → Reading
with_record stand behind =
    if is_empty stand
    then ends (AtFault (record { kind = EmptyLine; at = stand.start; row = stand.row; column = 1 }))
    else with_row (record {
      row = stand.row;
      at = stand.start;
      end = stand.from + length stand.bytes;
      fields = fields_with_last stand;
    }) behind

-- the text ends after a field
abbrev pub after_field : Stand → (at : ℕ) → Reading
after_field stand at =
    if is_empty stand then (if stand.row == 1 then fault stand Ended at else ends AtEnd)
    else with_record stand (ends AtEnd)

-- The text ends. It may not within quotes, nor before its first record.
abbrev pub at_end : Part → Stand → (at : ℕ) → Reading
at_end Within stand at = fault stand Ended at
at_end other stand at = after_field stand at

-- what a byte leads to, where reading goes on so
abbrev pub moved : Stand → (at b : ℕ) → Move → (Stand → Reading) → Reading
moved stand at b (Takes part) next = next (record stand { bytes = stand.bytes ++ b ∷ []; part = part })
moved stand at b Parts next =
    next (record stand { fields = fields_with_last stand; from = at + 1; bytes = []; part = Front })
moved stand at b Ends next = with_record stand (next (first_field (next_count stand.row) (at + 1)))
moved stand at b Returns next = next (record stand { part = Return })
moved stand at b (Wrong kind) next = fault stand kind at

-- the text from a place on
unfoldable pub read : (separator : ℕ) → Stand → (at : ℕ) → List ℕ → Reading
read separator stand at [] = at_end stand.part stand at
read separator stand at (b ∷ rest) =
    moved stand at b (move separator stand.part b rest) (λ next. read separator next (at + 1) rest)

-- a byte order mark at the front is passed over
abbrev pub mark_len : List ℕ → ℕ
mark_len bytes = if starts_with nat_eq bytes (0xEF ∷ 0xBB ∷ 0xBF ∷ []) then 3 else 0

-- what is still to come of a text from a record's place on
abbrev pub left : (separator : ℕ) → List ℕ → (row at : ℕ) → Reading
left separator bytes row at = read separator (first_field row at) at (drop at bytes)

-- a whole text
abbrev pub read_text : (separator : ℕ) → List ℕ → Reading
read_text separator bytes = left separator bytes 1 (mark_len bytes)
