-- The reader of a table: what it has still to give, and what the code finds of it.
use Rattle.std.specs.Prelude.{◌≡◌, ◌<◌, ◌≤◌, ℕ, ◌+◌, Bool, true, false, List, [], length, map, drop, slice_range, slice_index, Result, Ok, Err}
use Rattle.table_text.specs.declared.cell.Cell.{Cell}
use Rattle.table_text.specs.declared.field.Flaw.{Flaw}
use Rattle.table_text.specs.declared.mark.Mark.{Mark}
use Rattle.table_text.specs.declared.mark.Mark.TheVariants as marks
use Rattle.table_text.specs.declared.step.Step.{Step}
use Rattle.table_text.specs.declared.step.Step.TheVariants as step
use Rattle.table_text.specs.declared.text_stop.TextStop.{TextStop}
use Rattle.table_text.specs.declared.text_stop.TextStop.TheVariants as stop
use Rattle.table_text.specs.Short.{number_or_none, short_number}
use Rattle.table_text.specs.Reading.{Field, AtEnd, AtFault, Reading, ends, with_row, Part, Front, Plain, mark, Stand, is_empty, next_count, fields_with_last, with_record, fault, read, left}

-- the whole text, and what is still to come of it
pub record Reader : Type 0 where
  pub bytes : List ℕ
  pub rest : Reading

-- the field that is there
abbrev pub field_at : List ℕ → Cell → Field
field_at bytes cell = record { at = cell.at; bytes = slice_range bytes cell.at cell.stop }

abbrev pub fields_at : List ℕ → List Cell → List Field
fields_at bytes cells = map (field_at bytes) cells

-- It is within these bytes, with its number.
pub record IsCellOf (bytes : List ℕ) (cell : Cell) : Type 0 where
  pub ordered : cell.at ≤ cell.stop
  pub inside : cell.stop ≤ length bytes
  pub number : cell.number ≡ number_or_none (short_number (slice_range bytes cell.at cell.stop))

-- What was still to come was this answer, and then the rest. An end and a fault stay, and want of memory takes nothing.
abbrev pub Gives : Reader → Result Step TextStop → List Cell → Reader → Type 0
Gives old (Ok (step.Record at end row)) cells new =
    old.rest ≡ with_row (record { row = row; at = at; end = end; fields = fields_at old.bytes cells }) new.rest
Gives old (Ok step.End) cells new = (old.rest ≡ ends AtEnd) × (new ≡ old)
Gives old (Err (stop.Fault fault)) cells new = (old.rest ≡ ends (AtFault fault)) × (new ≡ old)
Gives old (Err stop.NoMemory) cells new = new ≡ old

-- ---- a field

-- a mark after which no field goes on
abbrev pub closes : Mark → Bool
closes marks.Parts = true
closes marks.Feeds = true
closes marks.Returns = true
closes other = false

-- The text ends there, or a separator or a line end is there.
abbrev pub IsParted : (separator : ℕ) → List ℕ → ℕ → Type 0
IsParted separator bytes stop =
    stop < length bytes → closes (mark separator (slice_index bytes stop) (drop (stop + 1) bytes)) ≡ true

-- where a reader stands that has read these bytes of a field from a place
abbrev pub in_field : (row start : ℕ) → List Field → (from : ℕ) → List ℕ → Part → Stand
in_field row start fields from bytes part =
    record { row = row; start = start; fields = fields; from = from; bytes = bytes; part = part }

-- Whatever is before it, a field goes from the one place to the other.
abbrev pub GoesOver : (separator : ℕ) → List ℕ → Part → (at stop : ℕ) → Part → Type 0
GoesOver separator bytes first at stop last =
    (row start : ℕ) (fields : List Field)
    → read separator (in_field row start fields at [] first) at (drop at bytes)
    ≡ read separator (in_field row start fields at (slice_range bytes at stop) last) stop (drop stop bytes)

-- Whatever is before it, a field that begins there has this flaw.
abbrev pub HasFlaw : (separator : ℕ) → List ℕ → Part → (at : ℕ) → Flaw → Type 0
HasFlaw separator bytes first at flaw =
    (row start : ℕ) (fields : List Field)
    → read separator (in_field row start fields at [] first) at (drop at bytes)
    ≡ fault (in_field row start fields at [] first) flaw.kind flaw.at

-- A field is there that begins at a place.
pub record IsFieldAt (separator : ℕ) (bytes : List ℕ) (at : ℕ) (cell : Cell) : Type 0 where
  pub begins : cell.at ≡ at
  pub stands : IsCellOf bytes cell
  pub parted : IsParted separator bytes cell.stop
  pub over : GoesOver separator bytes Front at cell.stop Plain

-- ---- a record

-- The record that begins at a place ends at the other, with the fields in these cells.
pub record EndsAt (separator : ℕ) (bytes : List ℕ) (row start : ℕ) (cells : List Cell) (end : ℕ) : Type 0 where
  pub stand : Stand
  pub row_is : stand.row ≡ row
  pub start_is : stand.start ≡ start
  pub part_is : stand.part ≡ Plain
  pub fields : fields_with_last stand ≡ fields_at bytes cells
  pub end_is : stand.from + length stand.bytes ≡ end
  pub same : left separator bytes row start ≡ read separator stand end (drop end bytes)

-- The record that begins at a place has these fields, and the next one of them begins at the other place.
abbrev pub IsBegun : (separator : ℕ) → List ℕ → (row start : ℕ) → List Cell → (at : ℕ) → Type 0
IsBegun separator bytes row start cells at =
    left separator bytes row start
    ≡ read separator (in_field row start (fields_at bytes cells) at [] Front) at (drop at bytes)

-- Whichever record it is, its next fields are in these cells too, from the one place up to the other.
abbrev pub GoesOn : (separator : ℕ) → List ℕ → (old new : List Cell) → (at next : ℕ) → Type 0
GoesOn separator bytes old new at next =
    (row start : ℕ) → IsBegun separator bytes row start old at → IsBegun separator bytes row start new next

-- The text ends there, or a line does.
abbrev pub ends_line : Mark → Bool
ends_line marks.Feeds = true
ends_line marks.Returns = true
ends_line other = false

abbrev pub IsEnded : (separator : ℕ) → List ℕ → ℕ → Type 0
IsEnded separator bytes end =
    end < length bytes → ends_line (mark separator (slice_index bytes end) (drop (end + 1) bytes)) ≡ true

-- After a record that ends there, the next one begins at the other place.
abbrev pub LineEnds : (separator : ℕ) → List ℕ → (end rest : ℕ) → Type 0
LineEnds separator bytes end rest =
    (stand : Stand) → stand.part ≡ Plain → 1 ≤ stand.row → (end ≡ length bytes → is_empty stand ≡ false)
    → read separator stand end (drop end bytes)
    ≡ with_record stand (left separator bytes (next_count stand.row) rest)

-- no record is there, for this fault; or memory is wanted
abbrev pub IsBroken : (separator : ℕ) → List ℕ → (row start : ℕ) → TextStop → Type 0
IsBroken separator bytes row start (stop.Fault fault) =
    left separator bytes row start ≡ ends (AtFault fault)
IsBroken separator bytes row start stop.NoMemory = Unit {0}

-- The answer at a place, with the place and the row of what is to come after it.
abbrev pub GivesFrom :
    (separator : ℕ) → List ℕ → (row at : ℕ) → Result (Step × ℕ × ℕ) TextStop → List Cell → Type 0
GivesFrom separator bytes row at (Ok found) cells =
    Gives (record { bytes = bytes; rest = left separator bytes row at }) (Ok found.0) cells
    (record { bytes = bytes; rest = left separator bytes found.2 found.1 })
GivesFrom separator bytes row at (Err stop) cells =
    let here : Reader = record { bytes = bytes; rest = left separator bytes row at } in Gives here (Err stop) cells here
