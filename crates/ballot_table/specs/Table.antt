-- A table of ballots.
use Rattle.std.specs.Prelude.{◌≡◌, ℕ, List, [], ◌∷◌, ◌++◌, map, All, Option, Some, None, replicate}
use Rattle.std.specs.List.{filter_map}
use Rattle.std.specs.Option.{option_map, option_and_then}
use Rattle.ballot_marks.specs.Ballot.{ranked}
use Rattle.ballot_marks.specs.declared.treatment.Treatment.{Treatment}
use Rattle.ballot_table.specs.declared.column.Column.{Column}
use Rattle.ballot_table.specs.declared.empty.Empty.{Empty}
use Rattle.ballot_table.specs.Asked.{Asked}
use Rattle.ballot_table.specs.Texts.{trimmed}
use Rattle.ballot_table.specs.declared.fault.Fault.{Fault}
use Rattle.ballot_table.specs.Head.{head_fault, columns, names_of}
use Rattle.ballot_table.specs.Rows.{Row, row_fault, row_of, with_room}

-- the candidates, and the rows that stand for ballots
pub record Table : Type 0 where
  pub names : List (List ℕ)
  pub rows : List Row

-- the texts of records' fields
abbrev pub texts_of : List (List ℕ) → List (List ℕ)
texts_of fields = map trimmed fields

-- the faults of all rows, each judged after those before it
abbrev pub row_faults : Asked → Empty → List Column → List (List (List ℕ)) → List (Option Fault)
row_faults asked empty cols rows = map (λ r. row_fault asked empty r.0 cols r.1) (with_room cols rows)

-- what all rows are that aren't dropped
abbrev pub rows_of : Asked → Empty → List Column → List (List (List ℕ)) → List Row
rows_of asked empty cols rows = filter_map (λ r. row_of asked empty r.0 cols r.1) (with_room cols rows)

-- Texts are a table: a head and rows below it, all without a fault.
pub record IsTable (asked : Asked) (empty : Empty) (head : List (List ℕ)) (below : List (List (List ℕ)))
    (t : Table) : Type 0
  where
    pub head_sound : head_fault asked head ≡ None
    pub rows_sound : All (λ fault. fault ≡ None) (row_faults asked empty (columns asked head) below)
    pub names : t.names ≡ names_of asked head
    pub rows : t.rows ≡ rows_of asked empty (columns asked head) below

-- a row's ranking as often as it stands for ballots
abbrev pub plain_of : Treatment → Row → Option (List (List ℕ))
plain_of treatment row = option_map (λ ranks. replicate row.count ranks) (ranked treatment row.marks)

-- The ballots of a table, in the order of its rows; none where the marks of a row are refused.
abbrev pub ballots : Treatment → List Row → Option (List (List ℕ))
ballots treatment [] = Some []
ballots treatment (row ∷ rows) =
    option_and_then (λ first. option_map (λ rest. first ++ rest) (ballots treatment rows))
    (plain_of treatment row)
