-- What a text comes to as a table: its ballots, or the first fault.
use Rattle.std.specs.Prelude.{◌≡◌, ℕ, ◌+◌, ◌-◌, min, Bool, true, false, if◌then◌else◌, List, [], ◌∷◌, length, map, take, drop}
use Rattle.std.specs.Prelude.{Option, Some, None, Result, Ok, Err, ⊤}
use Rattle.std.specs.List.{filter_map, last_or, slice_get, zip}
use Rattle.std.specs.Option.{option_map, option_map_or, option_or}
use Rattle.plain_ballots.specs.Ballots.{plain}
use Rattle.table_text.specs.declared.text_fault.TextFault.{TextFault}
use Rattle.table_text.specs.declared.text_fault.TheConstants.{MAX_COUNT}
use Rattle.table_text.specs.Reading as text
use Rattle.table_text.specs.Separator.{separator_of}
use Rattle.ballot_table.specs.declared.fault.Fault.{Fault}
use Rattle.ballot_table.specs.declared.table_asked.TableAsked.{TableAsked}
use Rattle.ballot_table.specs.declared.imported.Imported.{Imported}
use Rattle.ballot_table.specs.declared.table_kind.TableKind.{TableKind}
use Rattle.ballot_table.specs.declared.table_kind.TableKind.TheVariants.{NoColumn, BadWithdrawn, HeadExpected}
use Rattle.ballot_table.specs.declared.table_stop.TableStop.{TableStop}
use Rattle.ballot_table.specs.declared.table_stop.TableStop.TheVariants as stop
use Rattle.ballot_table.specs.Head.{head_fault, columns, names_of}
use Rattle.ballot_table.specs.Asked.{asked_of}
use Rattle.ballot_table.specs.ColumnNames.{column_names}
use Rattle.ballot_table.specs.Refusals.{faults_below}
use Rattle.ballot_table.specs.Report.{tally_of}
use Rattle.ballot_table.specs.Table.{rows_of, ballots}
use Rattle.ballot_table.specs.Texts.{trimmed}

-- the texts of a record's fields
abbrev pub texts_in : text.Row → List (List ℕ)
texts_in row = map (λ field. trimmed (text.field_text field.bytes)) row.fields

-- where a field of a record begins, from 1, and after the last where the record ends
abbrev pub byte_at : text.Row → ℕ → ℕ
byte_at row place = option_map_or (λ field. field.at) (slice_get row.fields (place - 1)) row.end

-- a fault of the words, whose place is one among them
abbrev pub is_of_words : TableKind → Bool
is_of_words NoColumn = true
is_of_words BadWithdrawn = true
is_of_words other = false

-- a fault of a record, at its byte
abbrev pub stop_at : text.Row → Fault → TableStop
stop_at row fault =
    if is_of_words fault.kind then stop.Word fault.kind fault.place
    else stop.Record fault.kind (byte_at row fault.place) row.row (min fault.place MAX_COUNT)

-- the faults of records, where they have one
abbrev pub stops : List text.Row → List (Option Fault) → List TableStop
stops rows faults = filter_map (λ p. option_map (stop_at p.0) p.1) (zip rows faults)

-- The names of a table's columns, the record at which faults of the head are told, and the rows.
pub record Headed : Type 0 where
  pub names : List (List ℕ)
  pub told : text.Row
  pub below : List text.Row

-- So many of these records are the head, with this column's number for each field of this one.
abbrev pub headed_at : ℕ → List text.Row → (told : text.Row) → Headed
headed_at n rows told = record {
  names = column_names (length told.fields) (map texts_in (take n rows));
  told = told;
  below = drop n rows;
}

-- Records of which so many are the head, where there are so many. The last of them has the columns; where none is the head,
-- the first of the rows has them.
abbrev pub headed : ℕ → List text.Row → Option Headed
headed n rows = option_map (headed_at n rows) (slice_get rows (n - 1))

-- the faults of a head and of the rows below it
abbrev pub faults_in : TableAsked → Headed → List (Option Fault)
faults_in asked head =
    let all = asked_of asked in
    head_fault all head.names
    ∷ faults_below all asked.treatment asked.empty (columns all head.names) (map texts_in head.below)

-- the first fault of a head and of the rows below it
abbrev pub record_stop : TableAsked → Headed → Option TableStop
record_stop asked head = slice_get (stops (head.told ∷ head.below) (faults_in asked head)) 0

abbrev pub text_stop : text.Ending → Option TableStop
text_stop text.AtEnd = None
text_stop (text.AtFault fault) = Some (stop.Text fault)

-- one more record of the head is expected after this one
abbrev pub expected_after : text.Row → TableStop
expected_after row = stop_at row (record { kind = HeadExpected; place = length (texts_in row) + 1 })

-- it is expected after the last
abbrev pub head_ended : List text.Row → Option TableStop
head_ended rows = option_map expected_after (last_or None rows)

-- Records are judged before what is after them is read, and those of the head when all of them are.
abbrev pub stop_under : TableAsked → text.Reading → Option Headed → Option TableStop
stop_under asked reading (Some head) = option_or (record_stop asked head) (text_stop reading.ending)
stop_under asked reading None = option_or (text_stop reading.ending) (head_ended reading.rows)

abbrev pub reading_stop : TableAsked → text.Reading → Option TableStop
reading_stop asked reading = stop_under asked reading (headed asked.heads reading.rows)

-- the byte between two fields: what is asked for, or what the head shows
abbrev pub separator : Option ℕ → List ℕ → Result ℕ TextFault
separator (Some byte) bytes = Ok byte
separator None bytes = separator_of bytes

abbrev pub stop_by : TableAsked → List ℕ → Result ℕ TextFault → Option TableStop
stop_by asked bytes (Err fault) = Some (stop.Text fault)
stop_by asked bytes (Ok byte) = reading_stop asked (text.read_text byte bytes)

-- The first fault of a text as a table, if it has one.
abbrev pub refusal : TableAsked → List ℕ → Option TableStop
refusal asked bytes = stop_by asked bytes (separator asked.separator bytes)

-- the table is refused for its first fault; or memory is wanted
abbrev pub IsTableStop : Option TableStop → TableStop → Type 0
IsTableStop first stop.NoMemory = ⊤
IsTableStop first found = first ≡ Some found

-- The text is a head and rows below it, whose names, ballots and numbers these are.
pub record IsImported (asked : TableAsked) (bytes : List ℕ) (imported : Imported) : Type 0 where
  pub byte : ℕ
  pub separated : separator asked.separator bytes ≡ Ok byte
  pub head : Headed
  pub records : headed asked.heads (text.read_text byte bytes).rows ≡ Some head
  pub names : imported.names ≡ names_of (asked_of asked) head.names
  pub candidates : imported.ballots.candidates ≡ length imported.names
  pub ballots_are :
      ballots asked.treatment
      (rows_of (asked_of asked) asked.empty (columns (asked_of asked) head.names) (map texts_in head.below))
      ≡ Some (plain imported.ballots.lines)
  pub tally_is :
      imported.tally
      ≡ tally_of asked.treatment asked.empty (map texts_in head.below)
      (rows_of (asked_of asked) asked.empty (columns (asked_of asked) head.names) (map texts_in head.below))
