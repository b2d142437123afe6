-- The rows of a table.
use Rattle.std.specs.Prelude.{ℕ, ◌+◌, ◌-◌, ◌==◌, min, Bool, true, false, if◌then◌else◌, List, [], ◌∷◌}
use Rattle.std.specs.Prelude.{length, take, map, sum_by, Option, Some, None, Result}
use Rattle.std.specs.List.{enumerate_from, filter_map, flat_map, list_all, position_or_len, range_with_len, zip, slice_get, slice_index_or}
use Rattle.std.specs.Option.{option_or, unwrap_or}
use Rattle.plain_ballots.specs.declared.limits.TheConstants.{MOST_BALLOTS, MOST_CANDIDATES}
use Rattle.ballot_marks.specs.declared.mark.Mark.{Mark}
use Rattle.ballot_marks.specs.declared.says.Says.{Says}
use Rattle.ballot_marks.specs.declared.says.Says.TheVariants.{One, Over}
use Rattle.ballot_table.specs.declared.column.Column.{Column}
use Rattle.ballot_table.specs.declared.column.Column.TheVariants as column
use Rattle.ballot_table.specs.declared.empty.Empty.{Empty}
use Rattle.ballot_table.specs.declared.empty.Empty.TheVariants as empty
use Rattle.ballot_table.specs.declared.layout.Layout.{Layout}
use Rattle.ballot_table.specs.declared.layout.Layout.TheVariants as layout
use Rattle.ballot_table.specs.declared.table_kind.TableKind.{TableKind}
use Rattle.ballot_table.specs.declared.table_kind.TableKind.TheVariants.{UnequalRow, EmptyRow}
use Rattle.ballot_table.specs.Asked.{Asked}
use Rattle.ballot_table.specs.Texts.{number}
use Rattle.ballot_table.specs.declared.fault.Fault.{Fault}
use Rattle.ballot_table.specs.Faults.{first_fault, sound}
use Rattle.ballot_table.specs.Cells.{Cell, Ranked, Said, Listed, cell_of}

-- a row: the number of ballots that it stands for, and their marks by rising rank
pub record Row : Type 0 where
  pub count : ℕ
  pub marks : List Mark

abbrev pub is_empty : List ℕ → Bool
is_empty [] = true
is_empty (b ∷ bs) = false

-- all fields are blank
abbrev pub all_blank : List (List ℕ) → Bool
all_blank texts = list_all is_empty texts

-- a row of blank fields stands for no ballot where such rows are dropped
abbrev pub is_dropped : Empty → List (List ℕ) → Bool
is_dropped empty.Drop texts = all_blank texts
is_dropped other texts = false

-- the number in the column of the weight; a blank is none
abbrev pub weight_in : Column × List ℕ → Option ℕ
weight_in (column.Weight, text) = Some (unwrap_or (number text) 0)
weight_in (other, text) = None

-- the number of ballots that a row stands for: its weight, or 1 where no column has one
abbrev pub ballots_in : List Column → List (List ℕ) → ℕ
ballots_in columns texts = unwrap_or (slice_get (filter_map weight_in (zip columns texts)) 0) 1

-- the number in the weight's column, and 0 where no column has one
abbrev pub weight_at : List Column → List (List ℕ) → ℕ
weight_at columns texts = unwrap_or (slice_get (filter_map weight_in (zip columns texts)) 0) 0

-- so many more ballots have room after these rows, by their weights
abbrev pub room_behind : List Column → List (List (List ℕ)) → ℕ
room_behind columns before = MOST_BALLOTS - sum_by (weight_at columns) before

-- rows, each with the room after those before it
abbrev pub with_room : List Column → List (List (List ℕ)) → List (ℕ × List (List ℕ))
with_room columns rows = map (λ at. (room_behind columns (take at.0 rows), at.1)) (enumerate_from 0 rows)

-- the cells of a row from the left
abbrev pub cells_of : Asked → ℕ → List Column → List (List ℕ) → List (Result Cell TableKind)
cells_of asked room columns texts = map (λ p. cell_of asked room p.0 p.1) (zip columns texts)

-- the rank in the cell of a candidate, which may be none
abbrev pub rank_cell : Cell → List (Option ℕ)
rank_cell (Ranked rank) = rank ∷ []
rank_cell other = []

-- what the cells say of the ranks in which candidates are, by number
abbrev pub ranks_of : List Cell → List (Option ℕ)
ranks_of cells = flat_map rank_cell cells

-- what the cell of a rank says
abbrev pub chosen_cell : Cell → List (Option Says)
chosen_cell (Said says) = says ∷ []
chosen_cell other = []

-- what the cells of ranks say, from the left
abbrev pub chosen_of : List Cell → List (Option Says)
chosen_of cells = flat_map chosen_cell cells

-- what the cell of a list says
abbrev pub listed_cell : Cell → List (Option Says)
listed_cell (Listed says) = says
listed_cell other = []

-- what the cells of lists say, from the first rank on
abbrev pub listed_of : List Cell → List (Option Says)
listed_of cells = flat_map listed_cell cells

-- the rank of a column of choices
abbrev pub column_rank : Column → Option ℕ
column_rank (column.Rank rank) = Some rank
column_rank other = None

-- the ranks of columns of choices, from the left
abbrev pub ranks_at : List Column → List ℕ
ranks_at columns = filter_map column_rank columns

-- for each rank from 1 the place of its column among those of ranks, from 0
abbrev pub places_of : List Column → List ℕ
places_of columns =
    let ranks = ranks_at columns in
    map (λ rank. position_or_len (λ other. other == rank) ranks) (range_with_len 1 (length ranks))

-- a candidate, where it has the rank
abbrev pub holder : (rank : ℕ) → ℕ × Option ℕ → Option ℕ
holder rank (c, None) = None
holder rank (c, Some r) = if r == rank then Some c else None

-- the candidates at a rank
abbrev pub holders : (rank : ℕ) → List (Option ℕ) → List ℕ
holders rank ranks = filter_map (holder rank) (enumerate_from 1 ranks)

-- what a rank says that these candidates have
abbrev pub said_by_holders : List ℕ → Option Says
said_by_holders [] = None
said_by_holders (c ∷ []) = Some (One c)
said_by_holders (c ∷ d ∷ others) = Some Over

-- what a rank says, where it isn't blank
abbrev pub said_of : ℕ × Option Says → Option (ℕ × Says)
said_of (rank, None) = None
said_of (rank, Some said) = Some (rank, said)

-- what each rank says that isn't blank, by rising rank
abbrev pub by_rank : List (Option Says) → List (ℕ × Says)
by_rank says = filter_map said_of (enumerate_from 1 says)

-- what each rank says from 1 up to a greatest, where the candidates in number order have these
unfoldable pub said_up_to : (most : ℕ) → List (Option ℕ) → List (Option Says)
said_up_to most ranks = map (λ rank. said_by_holders (holders rank ranks)) (range_with_len 1 most)

-- what is at these places
abbrev pub at_places : (places : List ℕ) → List (Option Says) → List (Option Says)
at_places places says = map (λ place. slice_index_or says place None) places

-- what each rank says: of as many candidates as there may be, of each column of a rank, or of each part of a list
abbrev pub said_at : Layout → List Column → List Cell → List (Option Says)
said_at layout.Ranks columns cells = said_up_to MOST_CANDIDATES (ranks_of cells)
said_at layout.Choices columns cells = at_places (places_of columns) (chosen_of cells)
said_at layout.List columns cells = listed_of cells

-- the marks of ranks that aren't blank, after a rank: those between each and the one before it are skipped
abbrev pub marks_behind : (last : ℕ) → List (ℕ × Says) → List Mark
marks_behind last said =
    map (λ p. record { skipped = p.1.0 - p.0 - 1; says = p.1.1 }) (zip (last ∷ map (λ s. s.0) said) said)

abbrev pub marks_of : List (ℕ × Says) → List Mark
marks_of said = marks_behind 0 said

-- what the ranks of a row say that aren't blank, by rising rank
abbrev pub said_in : Asked → ℕ → List Column → List (List ℕ) → List (ℕ × Says)
said_in asked room columns texts = by_rank (said_at asked.layout columns (sound (cells_of asked room columns texts)))

-- a record has a field for each column
abbrev pub length_fault : ℕ → ℕ → Option Fault
length_fault fields columns =
    if fields == columns then None else Some (record { kind = UnequalRow; place = min fields columns + 1 })

-- a row of blank fields is refused, or judged as any other by its cells, or dropped
abbrev pub empty_fault : Empty → Option Fault → Option Fault
empty_fault empty.Refuse cells = Some (record { kind = EmptyRow; place = 1 })
empty_fault empty.Keep cells = cells
empty_fault empty.Drop cells = None

-- The first fault of a row's form: its length, then that it is blank, then its cells from the left.
abbrev pub row_fault : Asked → Empty → ℕ → List Column → List (List ℕ) → Option Fault
row_fault asked empty room columns texts =
    let cells = first_fault (cells_of asked room columns texts) in
    option_or (length_fault (length texts) (length columns))
    (if all_blank texts then empty_fault empty cells else cells)

-- a row without a fault, if it isn't dropped
abbrev pub row_of : Asked → Empty → ℕ → List Column → List (List ℕ) → Option Row
row_of asked empty room columns texts =
    if is_dropped empty texts then None
    else Some (record {
      count = ballots_in columns texts;
      marks = marks_of (said_in asked room columns texts);
    })
