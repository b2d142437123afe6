-- The cells of a row.
use Rattle.std.specs.Prelude.{ℕ, ◌&&◌, nat_lt, nat_le, Bool, true, if◌then◌else◌}
use Rattle.std.specs.Prelude.{List, [], ◌∷◌, map, Option, Some, None, Result, Ok, Err}
use Rattle.std.specs.List.{filter_map, slice_get}
use Rattle.plain_ballots.specs.declared.limits.TheConstants.{MOST_CANDIDATES}
use Rattle.ballot_marks.specs.declared.says.Says.{Says}
use Rattle.ballot_marks.specs.declared.says.Says.TheVariants.{One, Over}
use Rattle.ballot_table.specs.declared.column.Column.{Column}
use Rattle.ballot_table.specs.declared.column.Column.TheVariants as column
use Rattle.ballot_table.specs.declared.table_kind.TableKind.{TableKind}
use Rattle.ballot_table.specs.declared.table_kind.TableKind.TheVariants.{BadRank, NoSuchCandidate, BadWeight}
use Rattle.ballot_table.specs.declared.table_kind.TableKind.TheVariants.{TooManyBallots}
use Rattle.ballot_table.specs.Asked.{Asked}
use Rattle.ballot_table.specs.Texts.{is_in, number_in, number, parts}
use Rattle.ballot_table.specs.Faults.{sound}

-- what a cell says: nothing, the number of ballots, the rank of its candidate, what its rank says, or what
-- each rank of its list says, where they aren't blank
pub data Cell : Type 0 where
  Nothing : Cell
  Counts : ℕ → Cell
  Ranked : Option ℕ → Cell
  Said : Option Says → Cell
  Listed : List (Option Says) → Cell

abbrev pub is_blank : Asked → List ℕ → Bool
is_blank asked [] = true
is_blank asked (b ∷ bs) = is_in asked.blank (b ∷ bs)

-- a rank is that of one of as many candidates as there may be
abbrev pub in_range : Option ℕ → Option ℕ
in_range None = None
in_range (Some n) = if nat_lt 0 n && nat_le n MOST_CANDIDATES then Some n else None

-- the rank that a text is: a number, or its place among the texts of ranks
abbrev pub rank_number : List (List ℕ) → List ℕ → Option ℕ
rank_number [] text = in_range (number text)
rank_number (rank ∷ ranks) text = number_in (rank ∷ ranks) text

abbrev pub some_or : {X : Type 0} → TableKind → Option X → Result (Option X) TableKind
some_or kind None = Err kind
some_or kind (Some x) = Ok (Some x)

-- the rank in the cell of a candidate, if it isn't blank
abbrev pub rank_in : Asked → List ℕ → Result (Option ℕ) TableKind
rank_in asked text = if is_blank asked text then Ok None else some_or BadRank (rank_number asked.ranks text)

abbrev pub one_of : Option ℕ → Option Says
one_of None = None
one_of (Some c) = Some (One c)

-- what the cell of a rank says, if it isn't blank
abbrev pub says_in : Asked → List ℕ → Result (Option Says) TableKind
says_in asked text =
    if is_blank asked text then Ok None
    else if is_in asked.over text then Ok (Some Over)
    else some_or NoSuchCandidate (one_of (number_in asked.candidates text))

-- why a part says nothing
abbrev pub fault_one : {X : Type 0} → Result X TableKind → Option TableKind
fault_one (Ok x) = None
fault_one (Err kind) = Some kind

abbrev pub all_or : {X : Type 0} → Option TableKind → List (Result X TableKind) → Result (List X) TableKind
all_or None fields = Ok (sound fields)
all_or (Some kind) fields = Err kind

-- what all of them say, or the first fault
abbrev pub all_of : {X : Type 0} → List (Result X TableKind) → Result (List X) TableKind
all_of fields = all_or (slice_get (filter_map fault_one fields) 0) fields

-- the number of ballots in a cell, of which there is room for so many more
abbrev pub counted : ℕ → Option ℕ → Result ℕ TableKind
counted room None = Err BadWeight
counted room (Some n) = if nat_le n room then Ok n else Err TooManyBallots

abbrev pub as_cell : {X : Type 0} → (X → Cell) → Result X TableKind → Result Cell TableKind
as_cell cell (Ok x) = Ok (cell x)
as_cell cell (Err kind) = Err kind

-- What a text says in a column, where so many more ballots have room.
abbrev pub cell_of : Asked → ℕ → Column → List ℕ → Result Cell TableKind
cell_of asked room column.PassedOver text = Ok Nothing
cell_of asked room column.Weight text = as_cell Counts (counted room (number text))
cell_of asked room (column.Candidate c) text = as_cell Ranked (rank_in asked text)
cell_of asked room (column.Rank r) text = as_cell Said (says_in asked text)
cell_of asked room column.List text = as_cell Listed (all_of (map (says_in asked) (parts text)))
