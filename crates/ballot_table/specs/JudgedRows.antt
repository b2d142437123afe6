-- What the code finds of a row.
use Rattle.std.specs.Prelude.{◌≡◌, ℕ, ◌-◌, List, Option, Some, None, Result, Ok, Err, ⊤}
use Rattle.std.specs.List.{slice_get, slice_index_or}
use Rattle.std.specs.Option.{option_or, unwrap_or}
use Rattle.plain_ballots.specs.Ranking.{IsRanking}
use Rattle.ballot_marks.specs.declared.treatment.Treatment.{Treatment}
use Rattle.ballot_marks.specs.declared.why.Why.{Why}
use Rattle.ballot_marks.specs.Ballot.{ranked, is_closed, is_passed, is_cut}
use Rattle.ballot_table.specs.declared.column.Column.{Column}
use Rattle.ballot_table.specs.declared.empty.Empty.{Empty}
use Rattle.ballot_table.specs.declared.fault.Fault.{Fault}
use Rattle.ballot_table.specs.declared.held.Held.TheVariants.{Nobody}
use Rattle.ballot_table.specs.declared.layout.Layout.{Layout}
use Rattle.ballot_table.specs.declared.layout.Layout.TheVariants as layout
use Rattle.ballot_table.specs.declared.record_stop.RecordStop.{RecordStop}
use Rattle.ballot_table.specs.declared.record_stop.RecordStop.TheVariants as stop
use Rattle.ballot_table.specs.declared.row.JudgedRow.{JudgedRow}
use Rattle.ballot_table.specs.declared.row_cells.RowCells.{RowCells}
use Rattle.ballot_table.specs.Held.{held_refused}
use Rattle.ballot_table.specs.Asked.{Asked}
use Rattle.ballot_table.specs.Faults.{first_fault}
use Rattle.ballot_table.specs.Finding.{candidates_in}
use Rattle.ballot_table.specs.Refusals.{place_of, is_candidate, is_rank, mark_fault, whole_fault}
use Rattle.ballot_table.specs.Rows.{Row, ballots_in, cells_of, marks_of, row_of, said_in, weight_at}

-- The column at which the mark at a place, from 0, is refused, by what is found of a row's cells.
abbrev pub refused_at : Layout → List Column → RowCells → (place : ℕ) → Why → ℕ
refused_at layout.Ranks columns cells place why =
    let rank = unwrap_or (slice_get cells.said.ranks place) 0 in
    place_of (is_candidate (held_refused why (slice_index_or cells.holders.held (rank - 1) Nobody))) columns
refused_at layout.Choices columns cells place why = place_of (is_rank (unwrap_or (slice_get cells.said.ranks place) 0)) columns
refused_at layout.List columns cells place why = place_of (is_rank (unwrap_or (slice_get cells.said.ranks place) 0)) columns

-- a record with this fault, if it has one, is refused for it; or memory is wanted
abbrev pub IsRowStop : Option Fault → RecordStop → Type 0
IsRowStop fault (stop.Fault found) = fault ≡ Some found
IsRowStop fault stop.NoMemory = ⊤

-- the first fault of a row's cells, or else of its marks
abbrev pub cells_fault : Asked → Treatment → ℕ → List Column → List (List ℕ) → Option Fault
cells_fault asked treatment room columns texts =
    option_or (first_fault (cells_of asked room columns texts)) (mark_fault asked treatment room columns texts)

-- neither has one
pub record HasNoFault (asked : Asked) (treatment : Treatment) (room : ℕ) (columns : List Column)
    (texts : List (List ℕ)) : Type 0
  where
    pub cells : first_fault (cells_of asked room columns texts) ≡ None
    pub marks : mark_fault asked treatment room columns texts ≡ None

-- the row, which isn't dropped
abbrev pub row_there : Asked → ℕ → List Column → List (List ℕ) → Row
row_there asked room columns texts = record {
  count = ballots_in columns texts;
  marks = marks_of (said_in asked room columns texts);
}

-- A row among n candidates is judged: its weight is this, its ballots are counted, and its marks have this
-- ranking, with what became of them.
pub record IsJudgedRow (n : ℕ) (treatment : Treatment) (weight : ℕ) (row : Row) (judged : JudgedRow) : Type 0 where
  pub weight_is : judged.weight ≡ weight
  pub count : judged.count ≡ row.count
  pub ranked_is : ranked treatment row.marks ≡ Some judged.treated.ranking
  pub closed_is : judged.treated.closed ≡ is_closed treatment row.marks
  pub passed_is : judged.treated.passed ≡ is_passed treatment row.marks
  pub cut_is : judged.treated.cut ≡ is_cut treatment row.marks
  pub sound : IsRanking n judged.treated.ranking

-- A row that isn't dropped has no fault, and is judged.
pub record IsSoundRow (asked : Asked) (treatment : Treatment) (room : ℕ) (columns : List Column) (texts : List (List ℕ))
    (judged : JudgedRow) : Type 0
  where
    pub no_fault : HasNoFault asked treatment room columns texts
    pub is_judged :
        IsJudgedRow (candidates_in asked columns) treatment (weight_at columns texts) (row_there asked room columns texts)
        judged

-- It is judged so, or refused for its first fault; or memory is wanted.
abbrev pub Judges : Asked → Treatment → ℕ → List Column → List (List ℕ) → Result JudgedRow RecordStop → Type 0
Judges asked treatment room columns texts (Ok judged) = IsSoundRow asked treatment room columns texts judged
Judges asked treatment room columns texts (Err stop) = IsRowStop (cells_fault asked treatment room columns texts) stop

-- a row is judged, or it is dropped
abbrev pub IsJudged : ℕ → Treatment → (weight : ℕ) → Option Row → Option JudgedRow → Type 0
IsJudged n treatment weight None None = weight ≡ 0
IsJudged n treatment weight (Some row) (Some judged) = IsJudgedRow n treatment weight row judged
IsJudged n treatment weight row other = ⊥

-- A row has no fault, and is judged or dropped.
pub record IsRowRead (asked : Asked) (treatment : Treatment) (empty : Empty) (room : ℕ) (columns : List Column)
    (texts : List (List ℕ)) (found : Option JudgedRow) : Type 0
  where
    pub sound : whole_fault asked treatment empty room columns texts ≡ None
    pub is_judged :
        IsJudged (candidates_in asked columns) treatment (weight_at columns texts)
        (row_of asked empty room columns texts) found

-- It is so, or refused for its first fault; or memory is wanted.
abbrev pub ReadsRow :
    Asked → Treatment → Empty → ℕ → List Column → List (List ℕ) → Result (Option JudgedRow) RecordStop → Type 0
ReadsRow asked treatment empty room columns texts (Ok found) = IsRowRead asked treatment empty room columns texts found
ReadsRow asked treatment empty room columns texts (Err stop) =
    IsRowStop (whole_fault asked treatment empty room columns texts) stop
