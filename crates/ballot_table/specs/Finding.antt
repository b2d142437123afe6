-- What the code finds of a head and of the cells of a row.
use Rattle.std.specs.Prelude.{◌≡◌, ◌<◌, ◌≤◌, ◌+◌, ◌-◌, ◌==◌, ◌^◌, Bool, true, false, if◌then◌else◌, length, map, ◌++◌, ◌∷◌, ℕ, List, [], sum_by}
use Rattle.std.specs.List.{list_all, list_any, slice_index_or, slice_set}
use Rattle.std.specs.Prelude.{Option, Some, None, Result, Ok, Err, ⊤}
use Rattle.std.specs.Option.{option_or, unwrap_or}
use Rattle.plain_ballots.specs.declared.limits.TheConstants.{MOST_CANDIDATES}
use Rattle.ballot_marks.specs.declared.says.Says.{Says}
use Rattle.ballot_table.specs.declared.cell_stop.CellStop.{CellStop}
use Rattle.ballot_table.specs.declared.cell_stop.CellStop.TheVariants as stop
use Rattle.ballot_table.specs.declared.column.Column.{Column}
use Rattle.ballot_table.specs.declared.column.Column.TheVariants as column
use Rattle.ballot_table.specs.declared.head.Head.{Head}
use Rattle.ballot_table.specs.declared.layout.Layout.{Layout}
use Rattle.ballot_table.specs.declared.layout.Layout.TheVariants as layout
use Rattle.ballot_table.specs.declared.row_cells.RowCells.{RowCells}
use Rattle.ballot_table.specs.declared.shape.Shape.{Shape}
use Rattle.ballot_table.specs.declared.table_kind.TableKind.{TableKind}
use Rattle.ballot_table.specs.Asked.{Asked}
use Rattle.ballot_table.specs.Cells.{Cell, Nothing, Counts, Ranked, Said, Listed, cell_of, fault_one}
use Rattle.ballot_table.specs.Faults.{sound, sound_one}
use Rattle.ballot_table.specs.Head.{columns, heads_say_ranks, may_be_rank, names_of, rank_said, unlabelled}
use Rattle.ballot_table.specs.Held.{IsHolding, says_held}
use Rattle.ballot_table.specs.Rows.{cells_of, ranks_of, at_places, chosen_of, listed_of, ballots_in, weight_at}
use Rattle.ballot_table.specs.Said.{SaidList, IsSaying}
use Rattle.ballot_table.specs.Texts.{is_in}

-- how many candidates a column is of
abbrev pub candidates_at : Column → ℕ
candidates_at (column.Candidate c) = 1
candidates_at other = 0

-- one where a text is no label
abbrev pub other_at : Asked → List ℕ → ℕ
other_at asked text = if is_in asked.labels text then 0 else 1

-- how many candidates so many heads name that are no labels
abbrev pub named_by : Layout → ℕ → ℕ
named_by layout.Ranks others = others
named_by layout.Choices others = 0
named_by layout.List others = 0

-- how many candidates there are: those of the head's columns, or those of the words
abbrev pub among : Layout → (words columns : ℕ) → ℕ
among layout.Ranks words columns = columns
among layout.Choices words columns = words
among layout.List words columns = words

abbrev pub candidates_in : Asked → List Column → ℕ
candidates_in asked columns = among asked.layout (length asked.candidates) (sum_by candidates_at columns)

-- the column of a text after so many that are no labels
pub record IsNext (asked : Asked) (others : ℕ) (text : List ℕ) (next : Column) : Type 0 where
  pub named : candidates_at next ≡ named_by asked.layout (other_at asked text)
  pub few : named_by asked.layout (others + other_at asked text) ≤ MOST_CANDIDATES

-- what the texts of a head say together
pub record IsShape (asked : Asked) (all : List (List ℕ)) (shape : Shape) : Type 0 where
  pub others : shape.others ≡ length (unlabelled asked all)
  pub few : shape.others < 2 ^ 31
  pub say_ranks : shape.say_ranks ≡ heads_say_ranks asked all
  pub may_be_ranks : shape.may_be_ranks ≡ list_all (may_be_rank asked) (unlabelled asked all)

-- Of each of n ranks it is known whether one of these heads says it.
pub record IsSeen (n : ℕ) (before : List (List ℕ)) (seen : List Bool) : Type 0 where
  pub size : length seen ≡ n
  pub each : (k : ℕ) → k < n → slice_index_or seen k false ≡ list_any (λ other. rank_said n other == k + 1) before

-- It is known where heads of choices say ranks.
abbrev pub IsSeenBy : Asked → (all before : List (List ℕ)) → List Bool → Type 0
IsSeenBy asked all before seen =
    asked.layout ≡ layout.Choices → heads_say_ranks asked all ≡ true
    → IsSeen (length (unlabelled asked all)) (unlabelled asked before) seen

-- with the rank of one column more
abbrev pub with_seen : Column → List Bool → List Bool
with_seen (column.Rank rank) seen = slice_set seen (rank - 1) true
with_seen other seen = seen

-- the columns of a head, and the number of its candidates
pub record IsHead (asked : Asked) (texts : List (List ℕ)) (head : Head) : Type 0 where
  pub columns_are : head.columns.items ≡ columns asked texts
  pub others : head.others ≡ length (unlabelled asked texts)
  pub names : head.candidates ≡ length (names_of asked texts)
  pub candidates : candidates_in asked head.columns.items ≡ head.candidates
  pub few : sum_by candidates_at head.columns.items ≤ MOST_CANDIDATES

-- why a cell is not taken in; or memory is wanted
abbrev pub IsCellStop : Option TableKind → CellStop → Type 0
IsCellStop fault (stop.Fault kind) = fault ≡ Some kind
IsCellStop fault stop.NoMemory = ⊤

-- these ranks more are taken in
abbrev pub SaysMore : (more : List (Option Says)) → (old new : SaidList) → Type 0
SaysMore more old new = (says : List (Option Says)) → IsSaying says old → IsSaying (says ++ more) new

abbrev pub SaysAll : Option (List (Option Says)) → (old new : SaidList) → Type 0
SaysAll None old new = ⊤
SaysAll (Some more) old new = SaysMore more old new

-- a cell adds what it says to what the cells before it say
abbrev pub IsTaken : Option Cell → (old new : RowCells) → Type 0
IsTaken None old new = ⊤
IsTaken (Some Nothing) old new = new ≡ old
IsTaken (Some (Counts n)) old new =
    (new.holders ≡ old.holders) × (new.said ≡ old.said) × (new.chosen.items ≡ old.chosen.items)
    × (new.count ≡ option_or old.count (Some n))
IsTaken (Some (Ranked rank)) old new =
    (new.count ≡ old.count) × (new.said ≡ old.said) × (new.chosen.items ≡ old.chosen.items)
    × ((ranks : List (Option ℕ)) → IsHolding ranks old.holders → IsHolding (ranks ++ rank ∷ []) new.holders)
IsTaken (Some (Said says)) old new =
    (new.count ≡ old.count) × (new.holders ≡ old.holders) × (new.said ≡ old.said)
    × (new.chosen.items ≡ old.chosen.items ++ says ∷ [])
IsTaken (Some (Listed says)) old new =
    (new.count ≡ old.count) × (new.holders ≡ old.holders) × (new.chosen.items ≡ old.chosen.items)
    × SaysMore says old.said new.said

-- a cell without a fault is taken in
pub record IsCellTaken (asked : Asked) (room : ℕ) (column : Column) (text : List ℕ) (old new : RowCells) : Type 0 where
  pub sound : fault_one (cell_of asked room column text) ≡ None
  pub taken : IsTaken (sound_one (cell_of asked room column text)) old new
  pub candidates : new.holders.candidates ≡ old.holders.candidates + candidates_at column

-- It is taken in, or not for its fault; or memory is wanted.
abbrev pub TakesCell :
    Asked → ℕ → Column → List ℕ → (old : RowCells) → Result (Unit {0}) CellStop → (new : RowCells) → Type 0
TakesCell asked room column text old (Ok done) new = IsCellTaken asked room column text old new
TakesCell asked room column text old (Err stop) new = IsCellStop (fault_one (cell_of asked room column text)) stop

-- the cells of a row say this: the number of its ballots, who has each rank, and what each rank says
pub record AreTaken (asked : Asked) (room : ℕ) (columns : List Column) (texts : List (List ℕ)) (cells : RowCells)
    : Type 0
  where
    pub weight : unwrap_or cells.count 0 ≡ weight_at columns texts
    pub count : unwrap_or cells.count 1 ≡ ballots_in columns texts
    pub holding : IsHolding (ranks_of (sound (cells_of asked room columns texts))) cells.holders
    pub chosen : cells.chosen.items ≡ chosen_of (sound (cells_of asked room columns texts))
    pub saying : IsSaying (listed_of (sound (cells_of asked room columns texts))) cells.said
    pub candidates : cells.holders.candidates ≡ sum_by candidates_at columns

-- what each rank says: by those who have it where the columns are the candidates', and by its place where they are of ranks
abbrev pub IsSaidBy : Layout → (places : List ℕ) → (old new : RowCells) → Type 0
IsSaidBy layout.Ranks places old new = IsSaying (map says_held old.holders.held) new.said
IsSaidBy layout.Choices places old new = IsSaying (at_places places old.chosen.items) new.said
IsSaidBy layout.List places old new = new.said ≡ old.said
