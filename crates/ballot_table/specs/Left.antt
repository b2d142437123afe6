-- What is still to come of a table's rows.
use Rattle.std.specs.Prelude.{◌≡◌, ℕ, ◌-◌, ◌++◌, List, [], ◌∷◌, length, map, replicate, Option, Some, None, Result, Ok, Err}
use Rattle.std.specs.List.{filter_map, slice_get}
use Rattle.std.specs.Option.{option_map, option_or}
use Rattle.plain_ballots.specs.declared.limits.TheConstants.{MOST_BALLOTS}
use Rattle.plain_ballots.specs.Ballots.{BallotList, plain}
use Rattle.ballot_marks.specs.declared.treatment.Treatment.{Treatment}
use Rattle.ballot_marks.specs.Ballot.{ranked, is_closed, is_passed, is_cut}
use Rattle.table_text.specs.Reading as text
use Rattle.ballot_table.specs.declared.column.Column.{Column}
use Rattle.ballot_table.specs.declared.fault.Fault.{Fault}
use Rattle.ballot_table.specs.declared.imported.Imported.{Imported}
use Rattle.ballot_table.specs.declared.rows.Rows.{Rows}
use Rattle.ballot_table.specs.declared.table_asked.TableAsked.{TableAsked}
use Rattle.ballot_table.specs.declared.table_stop.TableStop.{TableStop}
use Rattle.ballot_table.specs.declared.tally.Tally.{Tally}
use Rattle.ballot_table.specs.Head.{columns, names_of}
use Rattle.ballot_table.specs.Imported.{Headed, headed, texts_in, stop_at, stops, text_stop, reading_stop, IsTableStop}
use Rattle.ballot_table.specs.Asked.{asked_of}
use Rattle.ballot_table.specs.Refusals.{whole_fault}
use Rattle.ballot_table.specs.Report.{tally_of, one_dropped, counted_if, plus, ranks_nobody}
use Rattle.ballot_table.specs.Rows.{Row, weight_at, row_of}
use Rattle.ballot_table.specs.Table.{rows_of, ballots}

-- rows, each with the room for more ballots that those before it leave
abbrev pub rooms : List Column → (room : ℕ) → List (List (List ℕ)) → List (ℕ × List (List ℕ))
rooms cols room [] = []
rooms cols room (row ∷ rows) = (room, row) ∷ rooms cols (room - weight_at cols row) rows

-- the faults of rows for which there is so much room
abbrev pub faults_left : TableAsked → List Column → (room : ℕ) → List text.Row → List (Option Fault)
faults_left asked cols room rows =
    map (λ r. whole_fault (asked_of asked) asked.treatment asked.empty r.0 cols r.1) (rooms cols room (map texts_in rows))

-- the first fault of what is still to come, if it has one
abbrev pub stop_left : TableAsked → List Column → (room : ℕ) → text.Reading → Option TableStop
stop_left asked cols room reading =
    option_or (slice_get (stops reading.rows (faults_left asked cols room reading.rows)) 0) (text_stop reading.ending)

-- the ballots of rows for which there is so much room
abbrev pub ballots_left : TableAsked → List Column → (room : ℕ) → List text.Row → Option (List (List ℕ))
ballots_left asked cols room rows =
    ballots asked.treatment
    (filter_map (λ r. row_of (asked_of asked) asked.empty r.0 cols r.1) (rooms cols room (map texts_in rows)))

-- the numbers of rows for which there is so much room
abbrev pub tally_left : TableAsked → List Column → (room : ℕ) → List text.Row → Tally
tally_left asked cols room rows =
    tally_of asked.treatment asked.empty (map texts_in rows)
    (filter_map (λ r. row_of (asked_of asked) asked.empty r.0 cols r.1) (rooms cols room (map texts_in rows)))

-- the numbers of a row, where it isn't dropped and where it is
abbrev pub of_row : Treatment → Option Row → Tally
of_row treatment None = one_dropped
of_row treatment (Some row) = record {
  rows = 1;
  dropped = 0;
  ballots = row.count;
  empty = counted_if (ranks_nobody (ranked treatment row.marks)) row.count;
  closed = counted_if (is_closed treatment row.marks) row.count;
  passed = counted_if (is_passed treatment row.marks) row.count;
  cut = counted_if (is_cut treatment row.marks) row.count;
}

-- a row's ranking is added as often as it stands for ballots
pub record IsAddedRow (treatment : Treatment) (row : Row) (old new : BallotList) : Type 0 where
  pub ranking : List ℕ
  pub ranked_is : ranked treatment row.marks ≡ Some ranking
  pub plain_is : plain new.lines ≡ plain old.lines ++ replicate row.count ranking

-- the ballots of a row are added, if it isn't dropped
abbrev pub IsAdded : Treatment → Option Row → (old new : BallotList) → Type 0
IsAdded treatment None old new = plain new.lines ≡ plain old.lines
IsAdded treatment (Some row) old new = IsAddedRow treatment row old new

-- A row without a fault is taken in: it takes room for its weight, and its ballots and its numbers are added.
pub record IsRowTaken (asked : TableAsked) (cols : List Column) (texts : List (List ℕ)) (old new : Rows) : Type 0 where
  pub sound : whole_fault (asked_of asked) asked.treatment asked.empty old.room cols texts ≡ None
  pub room : new.room ≡ old.room - weight_at cols texts
  pub candidates : new.ballots.candidates ≡ old.ballots.candidates
  pub added : IsAdded asked.treatment (row_of (asked_of asked) asked.empty old.room cols texts) old.ballots new.ballots
  pub tallied : new.tally ≡ plus (of_row asked.treatment (row_of (asked_of asked) asked.empty old.room cols texts)) old.tally

-- It is taken in, or refused for its first fault; or memory is wanted.
abbrev pub TakesRow : TableAsked → List Column → text.Row → List (List ℕ) → (old : Rows) → Result (Unit {0}) TableStop → (new : Rows)
    → Type 0
TakesRow asked cols row texts old (Ok done) new = IsRowTaken asked cols texts old new
TakesRow asked cols row texts old (Err stop) new =
    IsTableStop (option_map (stop_at row) (whole_fault (asked_of asked) asked.treatment asked.empty old.room cols texts)) stop

-- All that is still to come is taken in, after no row.
pub record AreRowsTaken (asked : TableAsked) (cols : List Column) (reading : text.Reading) (old new : Rows) : Type 0 where
  pub sound : stop_left asked cols MOST_BALLOTS reading ≡ None
  pub candidates : new.ballots.candidates ≡ old.ballots.candidates
  pub ballots_are : ballots_left asked cols MOST_BALLOTS reading.rows ≡ Some (plain new.ballots.lines)
  pub tally_is : new.tally ≡ tally_left asked cols MOST_BALLOTS reading.rows

-- It is taken in, or refused for its first fault; or memory is wanted.
abbrev pub TakesRows : TableAsked → List Column → text.Reading → (old : Rows) → Result (Unit {0}) TableStop → (new : Rows) → Type 0
TakesRows asked cols reading old (Ok done) new = AreRowsTaken asked cols reading old new
TakesRows asked cols reading old (Err stop) new = IsTableStop (stop_left asked cols MOST_BALLOTS reading) stop

-- Rows under these columns, without a fault, are read for these candidates.
pub record AreRowsRead (asked : TableAsked) (cols : List Column) (names : List (List ℕ)) (reading : text.Reading)
    (imported : Imported) : Type 0
  where
    pub sound : stop_left asked cols MOST_BALLOTS reading ≡ None
    pub names_are : imported.names ≡ names
    pub candidates : imported.ballots.candidates ≡ length imported.names
    pub ballots_are : ballots_left asked cols MOST_BALLOTS reading.rows ≡ Some (plain imported.ballots.lines)
    pub tally_is : imported.tally ≡ tally_left asked cols MOST_BALLOTS reading.rows

-- They are read so, or refused for their first fault; or memory is wanted.
abbrev pub ReadsRows :
    TableAsked → List Column → (names : List (List ℕ)) → text.Reading → Result Imported TableStop → Type 0
ReadsRows asked cols names reading (Ok imported) = AreRowsRead asked cols names reading imported
ReadsRows asked cols names reading (Err stop) = IsTableStop (stop_left asked cols MOST_BALLOTS reading) stop

-- Records are a head and rows without a fault, whose names, ballots and numbers these are.
pub record IsRead (asked : TableAsked) (reading : text.Reading) (imported : Imported) : Type 0 where
  pub sound : reading_stop asked reading ≡ None
  pub head : Headed
  pub records : headed asked.heads reading.rows ≡ Some head
  pub names : imported.names ≡ names_of (asked_of asked) head.names
  pub candidates : imported.ballots.candidates ≡ length imported.names
  pub ballots_are :
      ballots asked.treatment
      (rows_of (asked_of asked) asked.empty (columns (asked_of asked) head.names) (map texts_in head.below))
      ≡ Some (plain imported.ballots.lines)
  pub tally_is :
      imported.tally
      ≡ tally_of asked.treatment asked.empty (map texts_in head.below)
      (rows_of (asked_of asked) asked.empty (columns (asked_of asked) head.names) (map texts_in head.below))

-- They are read so, or refused for their first fault; or memory is wanted.
abbrev pub Reads : TableAsked → text.Reading → Result Imported TableStop → Type 0
Reads asked reading (Ok imported) = IsRead asked reading imported
Reads asked reading (Err stop) = IsTableStop (reading_stop asked reading) stop
