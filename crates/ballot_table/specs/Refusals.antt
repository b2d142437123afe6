-- The first fault of a table.
use Rattle.std.specs.Prelude.{ℕ, ◌+◌, ◌==◌, Bool, true, false, List, [], ◌∷◌, length, map}
use Rattle.std.specs.Prelude.{position, if◌then◌else◌, Option, Some, None}
use Rattle.std.specs.List.{enumerate_from, filter_map, slice_get}
use Rattle.std.specs.Option.{option_map, option_or, option_map_or, unwrap_or}
use Rattle.ballot_marks.specs.declared.treatment.Treatment.{Treatment}
use Rattle.ballot_marks.specs.declared.why.Why.{Why}
use Rattle.ballot_marks.specs.declared.why.Why.TheVariants as why
use Rattle.ballot_marks.specs.declared.way.Way.{Way}
use Rattle.ballot_marks.specs.declared.way.Way.TheVariants.{Refused}
use Rattle.ballot_marks.specs.Ballot.{judged, effective, end_way}
use Rattle.ballot_table.specs.declared.column.Column.{Column}
use Rattle.ballot_table.specs.declared.column.Column.TheVariants as column
use Rattle.ballot_table.specs.declared.empty.Empty.{Empty}
use Rattle.ballot_table.specs.declared.layout.Layout.{Layout}
use Rattle.ballot_table.specs.declared.layout.Layout.TheVariants as layout
use Rattle.ballot_table.specs.declared.table_kind.TableKind.{TableKind}
use Rattle.ballot_table.specs.declared.table_kind.TableKind.TheVariants.{SkippedRank, EqualRank, Repeated}
use Rattle.ballot_table.specs.Asked.{Asked}
use Rattle.ballot_table.specs.declared.fault.Fault.{Fault}
use Rattle.ballot_table.specs.Faults.{sound}
use Rattle.ballot_table.specs.Head.{head_fault, columns}
use Rattle.ballot_table.specs.Cells.{Cell}
use Rattle.ballot_table.specs.Rows.{cells_of, ranks_of, holders, said_in, marks_of, is_dropped, row_fault}
use Rattle.ballot_table.specs.Rows.{with_room}

-- a fault and its row, from 1, which is the head
pub record TableFault : Type 0 where
  pub row : ℕ
  pub fault : Fault

abbrev pub kind_of : Why → TableKind
kind_of why.SkippedRank = SkippedRank
kind_of why.EqualRank = EqualRank
kind_of why.Repeated = Repeated

-- the column of candidate c, and of a rank, and of a list
abbrev pub is_candidate : ℕ → Column → Bool
is_candidate c (column.Candidate d) = d == c
is_candidate c other = false

abbrev pub is_rank : ℕ → Column → Bool
is_rank r (column.Rank q) = q == r
is_rank r column.List = true
is_rank r other = false

-- the place of the first column that is asked for, from 1
abbrev pub place_of : (Column → Bool) → List Column → ℕ
place_of is columns = unwrap_or (position is columns) 0 + 1

-- of the candidates at a rank the one at whose cell a mark is refused: the second where they are more than
-- one
abbrev pub refused_holder : Why → List ℕ → ℕ
refused_holder why.EqualRank (c ∷ d ∷ others) = d
refused_holder reason (c ∷ others) = c
refused_holder reason [] = 0

-- the column at which the mark of a rank is refused
abbrev pub refused_column : Layout → List Column → List Cell → ℕ → Why → ℕ
refused_column layout.Ranks columns cells rank reason =
    place_of (is_candidate (refused_holder reason (holders rank (ranks_of cells)))) columns
refused_column layout.Choices columns cells rank reason = place_of (is_rank rank) columns
refused_column layout.List columns cells rank reason = place_of (is_rank rank) columns

-- why the ballot of marks is refused, if it is
abbrev pub reason_of : Option Way → Option Why
reason_of (Some (Refused reason)) = Some reason
reason_of other = None

-- the refusal of a row's marks, at the cell of the first that is refused
abbrev pub mark_fault : Asked → Treatment → ℕ → List Column → List (List ℕ) → Option Fault
mark_fault asked treatment room columns texts =
    let cells = sound (cells_of asked room columns texts) in
    let said = said_in asked room columns texts in
    let js = judged treatment (marks_of said) in
    let rank = option_map_or (λ s. s.0) (slice_get said (length (effective js))) 0 in
    option_map
    (λ reason. record {
      kind = kind_of reason;
      place = refused_column asked.layout columns cells rank reason;
    })
    (reason_of (end_way js))

-- the first fault of a row: of its form, or else of its marks, if it isn't dropped
abbrev pub whole_fault : Asked → Treatment → Empty → ℕ → List Column → List (List ℕ) → Option Fault
whole_fault asked treatment empty room columns texts =
    option_or (row_fault asked empty room columns texts)
    (if is_dropped empty texts then None else mark_fault asked treatment room columns texts)

-- the faults that rows have, with their places among the rows of the table
abbrev pub placed : ℕ → List (Option Fault) → List TableFault
placed first faults =
    filter_map (λ at. option_map (λ fault. record { row = at.0; fault = fault }) at.1)
    (enumerate_from first faults)

-- the faults of rows, each judged after those before it
abbrev pub faults_below : Asked → Treatment → Empty → List Column → List (List (List ℕ)) → List (Option Fault)
faults_below asked treatment empty cols rows =
    map (λ r. whole_fault asked treatment empty r.0 cols r.1) (with_room cols rows)

-- The first fault of a head, which is row 1, and of the rows below it, if one is there.
abbrev pub fault_of_table :
    Asked → Treatment → Empty → List (List ℕ) → List (List (List ℕ)) → Option TableFault
fault_of_table asked treatment empty head below =
    slice_get
    (placed 1 (head_fault asked head ∷ faults_below asked treatment empty (columns asked head) below)) 0
