-- What holds of every table.
use Rattle.std.specs.Prelude.{◌≡◌, ◌↔◌, ℕ, List, Some, None, IsPermutation}
use Rattle.ballot_marks.specs.declared.treatment.Treatment.{Treatment}
use Rattle.ballot_marks.specs.Laws.{strict}
use Rattle.ballot_table.specs.declared.empty.Empty.{Empty}
use Rattle.ballot_table.specs.declared.empty.Empty.TheVariants.{Refuse}
use Rattle.ballot_table.specs.Asked.{Asked}
use Rattle.ballot_table.specs.Table.{Table, IsTable, ballots}
use Rattle.ballot_table.specs.Rows.{Row}
use Rattle.ballot_table.specs.Refusals.{fault_of_table}

-- a table whose rows all have a ranking
pub record IsCounted (asked : Asked) (treatment : Treatment) (empty : Empty) (head : List (List ℕ))
    (below : List (List (List ℕ))) : Type 0
  where
    pub table : Table
    pub is_table : IsTable asked empty head below table
    pub rankings : List (List ℕ)
    pub ranked : ballots treatment table.rows ≡ Some rankings

-- There is a fault, or a table whose rows all have a ranking, and not both.
abbrev pub FaultOrTable : Type 0
FaultOrTable =
    (asked : Asked) (treatment : Treatment) (empty : Empty) (head : List (List ℕ))
    (below : List (List (List ℕ)))
    → (fault_of_table asked treatment empty head below ≡ None) ↔ IsCounted asked treatment empty head below

-- Rows in another order stand for the same ballots, in another order.
abbrev pub RowsHaveNoOrder : Type 0
RowsHaveNoOrder =
    (treatment : Treatment) (one other : List Row) (rankings : List (List ℕ)) → IsPermutation one other
    → ballots treatment one ≡ Some rankings
    → (others : List (List ℕ)) × (ballots treatment other ≡ Some others) × IsPermutation rankings others

-- Records below the head in another order are a table too, of the same ballots in another order.
abbrev pub RecordsHaveNoOrder : Type 0
RecordsHaveNoOrder =
    (asked : Asked) (treatment : Treatment) (empty : Empty) (head : List (List ℕ))
    (one other : List (List (List ℕ))) → IsPermutation one other
    → (counted : IsCounted asked treatment empty head one)
    → (again : IsCounted asked treatment empty head other) × IsPermutation counted.rankings again.rankings

-- What is accepted where all is refused is the same table, of the same ballots, under any treatment.
abbrev pub TreatmentsOnlyMend : Type 0
TreatmentsOnlyMend =
    (asked : Asked) (treatment : Treatment) (empty : Empty) (head : List (List ℕ))
    (below : List (List (List ℕ))) (t : Table) (rankings : List (List ℕ))
    → IsTable asked Refuse head below t → ballots strict t.rows ≡ Some rankings
    → IsTable asked empty head below t × (ballots treatment t.rows ≡ Some rankings)
