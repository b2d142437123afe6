-- What the code finds of a text's records.
use Rattle.std.specs.Prelude.{◌≡◌, ◌≤◌, ◌-◌, ℕ, List, length, map, take, drop, Option, Some, None, Result, Ok, Err, ⊤}
use Rattle.std.specs.List.{slice_get}
use Rattle.table_text.specs.declared.cell.Cell.{Cell}
use Rattle.table_text.specs.Reading as text
use Rattle.table_text.specs.Reader.{Reader, fields_at}
use Rattle.ballot_table.specs.declared.field.Field.{Field}
use Rattle.ballot_table.specs.declared.field.Field.TheVariants.{Standing, Unquoted}
use Rattle.ballot_table.specs.declared.head_records.HeadRecords.{HeadRecords}
use Rattle.ballot_table.specs.declared.sheet.Place.{Place}
use Rattle.ballot_table.specs.declared.table_asked.TableAsked.{TableAsked}
use Rattle.ballot_table.specs.declared.table_stop.TableStop.{TableStop}
use Rattle.ballot_table.specs.declared.table_stop.TableStop.TheVariants as stop
use Rattle.ballot_table.specs.Imported.{IsTableStop, reading_stop, texts_in}
use Rattle.ballot_table.specs.Texts.{trimmed}

-- the text of a field, which is in the table or is without its quotes
abbrev pub text_of : Field → List ℕ
text_of (Standing bytes) = trimmed bytes.now
text_of (Unquoted bytes) = trimmed bytes.items

-- the texts of fields that stand there
abbrev pub texts_at : List ℕ → List Cell → List (List ℕ)
texts_at bytes cells = map (λ field. trimmed (text.field_text field.bytes)) (fields_at bytes cells)

-- what is still to come of a table, where the fields of the last record stand, and their texts
pub record Opened : Type 0 where
  pub records : Reader
  pub cells : List Cell
  pub texts : List (List ℕ)

-- the record that is at a place of a sheet
abbrev pub row_at : Opened → Place → text.Row
row_at sheet place =
    record { row = place.row; at = place.at; end = place.end; fields = fields_at sheet.records.bytes sheet.cells }

-- the sheet goes on to its next record, with the texts of its fields
pub record IsTurned (old : Opened) (place : Place) (new : Opened) : Type 0 where
  pub rest : old.records.rest ≡ text.with_row (row_at new place) new.records.rest
  pub texts : new.texts ≡ texts_in (row_at new place)

-- What was still to come was this answer, and then the rest.
abbrev pub Turns : Opened → Result (Option Place) TableStop → Opened → Type 0
Turns old (Ok (Some place)) new = IsTurned old place new
Turns old (Ok None) new = old.records.rest ≡ text.ends text.AtEnd
Turns old (Err (stop.Text fault)) new = old.records.rest ≡ text.ends (text.AtFault fault)
Turns old (Err stop.NoMemory) new = ⊤
Turns old (Err other) new = ⊥

-- what is still to come after so many records
abbrev pub left_after : ℕ → text.Reading → text.Reading
left_after n reading = record { rows = drop n reading.rows; ending = reading.ending }

-- a record of a sheet is the last of so many
pub record IsLastOf (n : ℕ) (reading : text.Reading) (place : Place) (sheet : Opened) : Type 0 where
  pub last : slice_get reading.rows (n - 1) ≡ Some (row_at sheet place)
  pub texts : sheet.texts ≡ texts_in (row_at sheet place)

-- so many records are read: the texts of each, and the place of the last
pub record AreHeadRecords (n : ℕ) (reading : text.Reading) (head : HeadRecords) (sheet : Opened) : Type 0 where
  pub rest : sheet.records.rest ≡ left_after n reading
  pub texts : head.texts.items ≡ map texts_in (take n reading.rows)
  pub last : IsLastOf n reading head.place sheet

-- Those of a head are read, or the table is refused for its first fault; or memory is wanted.
abbrev pub ReadsHead : TableAsked → text.Reading → Result HeadRecords TableStop → Opened → Type 0
ReadsHead asked reading (Ok head) sheet = AreHeadRecords asked.heads reading head sheet
ReadsHead asked reading (Err stop) sheet = IsTableStop (reading_stop asked reading) stop
