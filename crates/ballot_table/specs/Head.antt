-- The head of a table: what its columns are of.
use Rattle.std.specs.Prelude.{ℕ, ◌+◌, ◌-◌, ◌==◌, ◌||◌, ◌&&◌, not, nat_lt, nat_le, Bool, true, false, if◌then◌else◌}
use Rattle.std.specs.Prelude.{List, [], ◌∷◌, length, take, map, filter, position, Option, Some, None, Result}
use Rattle.std.specs.Prelude.{Ok, Err}
use Rattle.std.specs.List.{enumerate_from, list_any, list_all, after_last, ends_with}
use Rattle.std.specs.Option.{is_some, option_map, option_or, option_map_or}
use Rattle.std.specs.Result.{is_ok}
use Rattle.std.specs.Str.{bytes_eq}
use Rattle.plain_ballots.specs.declared.limits.TheConstants.{MOST_CANDIDATES}
use Rattle.ballot_table.specs.declared.column.Column.{Column}
use Rattle.ballot_table.specs.declared.column.Column.TheVariants as column
use Rattle.ballot_table.specs.declared.layout.Layout.{Layout}
use Rattle.ballot_table.specs.declared.layout.Layout.TheVariants as layout
use Rattle.ballot_table.specs.declared.table_kind.TableKind.{TableKind}
use Rattle.ballot_table.specs.declared.table_kind.TableKind.TheVariants.{NoColumn, RepeatedColumn}
use Rattle.ballot_table.specs.declared.table_kind.TableKind.TheVariants.{ColumnExpected, TooManyColumns}
use Rattle.ballot_table.specs.declared.table_kind.TableKind.TheVariants.{TooManyCandidates, NameExpected}
use Rattle.ballot_table.specs.declared.table_kind.TableKind.TheVariants.{BadName, TooLongName, BadWithdrawn}
use Rattle.ballot_table.specs.declared.table_kind.TableKind.TheVariants.{BadColumns, HeadExpected}
use Rattle.ballot_table.specs.Asked.{Asked}
use Rattle.ballot_table.specs.Texts.{trimmed, is_in, number, number_in, parts, said_number}
use Rattle.ballot_table.specs.Cells.{rank_in, says_in}
use Rattle.ballot_table.specs.declared.fault.Fault.{Fault}
use Rattle.ballot_table.specs.Faults.{first_fault, sound}

-- what is between the last `[` and the `]` that ends a text, and nothing where these are not there
abbrev pub bracketed : List ℕ → List ℕ
bracketed text =
    let opened = list_any (λ b. b == 91) text in
    let closed = ends_with (λ a b. a == b) text (93 ∷ []) in
    if opened && closed then trimmed (after_last (λ b. b == 91) (take (length text - 1) text)) else []

-- the name that a head's text says
abbrev pub name_of : Asked → List ℕ → List ℕ
name_of asked text = if asked.bracketed then bracketed text else text

-- why a name is none, or one too many, after these names
abbrev pub name_fault : List (List ℕ) → List ℕ → Option TableKind
name_fault before [] = Some NameExpected
name_fault before (b ∷ bs) =
    let name = b ∷ bs in
    if list_any (λ c. nat_lt c 32 || c == 34) name then Some BadName
    else if nat_lt 200 (length name) then Some TooLongName
    else if is_in before name then Some RepeatedColumn
    else if nat_le MOST_CANDIDATES (length before) then Some TooManyCandidates
    else None

-- of a head's texts, those that are no labels
abbrev pub unlabelled : Asked → List (List ℕ) → List (List ℕ)
unlabelled asked texts = filter (λ text. not (is_in asked.labels text)) texts

-- whether the words name the columns of choices that are read
abbrev pub are_chosen : Layout → List (List ℕ) → Bool
are_chosen layout.Choices (head ∷ heads) = true
are_chosen other heads = false

-- the column of a rank, or one that is passed over
abbrev pub chosen_column : Option ℕ → Column
chosen_column None = column.PassedOver
chosen_column (Some rank) = column.Rank rank

-- a labelled column: of the weight, of the rank that is its label's place among those that are read, or passed over
abbrev pub labelled : Asked → List ℕ → Column
labelled asked text =
    if option_map_or (λ label. bytes_eq label text) asked.weight false then column.Weight
    else chosen_column (number_in asked.chosen text)

abbrev pub unless : {X : Type 0} → Option TableKind → X → Result X TableKind
unless None x = Ok x
unless (Some kind) x = Err kind

-- whether ranks are where heads say them: where the words don't name the columns, and there are heads and not just numbers
abbrev pub are_by_heads : Asked → Bool
are_by_heads asked = not (asked.heads == 0) && not (are_chosen asked.layout asked.chosen)

-- each head that is no label says a rank
abbrev pub heads_say_ranks : Asked → List (List ℕ) → Bool
heads_say_ranks asked all =
    are_by_heads asked && list_all (λ text. is_some (said_number text)) (unlabelled asked all)

abbrev pub rank_among : ℕ → Option ℕ → ℕ
rank_among n None = 0
rank_among n (Some rank) = if nat_le rank n then rank else 0

-- the rank from 1 to n that a head says, and 0 where it says none of these
abbrev pub rank_said : ℕ → List ℕ → ℕ
rank_said n text = rank_among n (said_number text)

-- the column of the rank that its head says, after these others
abbrev pub said_column : ℕ → List (List ℕ) → List ℕ → Result Column TableKind
said_column n before text =
    let rank = rank_said n text in
    if rank == 0 || list_any (λ other. rank_said n other == rank) before then Err BadColumns
    else Ok (column.Rank rank)

-- A column of choices without a label is passed over where the words name those that are read. Else it is of a rank: by its
-- head where each head says a rank, and by its place where one doesn't.
abbrev pub choice_column : Asked → List (List ℕ) → List (List ℕ) → List ℕ → Result Column TableKind
choice_column asked all before text =
    if are_chosen layout.Choices asked.chosen then Ok column.PassedOver
    else if heads_say_ranks asked all then said_column (length (unlabelled asked all)) before text
    else Ok (column.Rank (length before + 1))

-- a column without a label, after these others
abbrev pub next_column : Layout → Asked → List (List ℕ) → List (List ℕ) → List ℕ → Result Column TableKind
next_column layout.Choices asked all before text = choice_column asked all before text
next_column layout.List asked all [] text = Ok column.List
next_column layout.List asked all (other ∷ others) text = Err TooManyColumns
next_column layout.Ranks asked all before text =
    unless (name_fault (map (name_of asked) before) (name_of asked text))
    (column.Candidate (length before + 1))

-- a number, or what the cell of a candidate may say
abbrev pub may_be_rank : Asked → List ℕ → Bool
may_be_rank asked text = is_some (number text) || is_ok (rank_in asked text)

-- a head reads as a cell of its column, which isn't passed over: of ranks where all heads without a label do
abbrev pub is_cell : Layout → Asked → List (List ℕ) → List ℕ → Bool
is_cell layout.Ranks asked all text = list_all (may_be_rank asked) (unlabelled asked all)
is_cell layout.Choices asked all text = not (are_chosen layout.Choices asked.chosen) && is_ok (says_in asked text)
is_cell layout.List asked all text = list_all (λ part. is_ok (says_in asked part)) (parts text)

-- The column of a text among all of a head, after these texts. Where the words don't say that there is a head, none reads
-- as a cell.
abbrev pub column_of : Asked → List (List ℕ) → List (List ℕ) → List ℕ → Result Column TableKind
column_of asked all before text =
    if is_in asked.labels text
    then (if is_in before text then Err RepeatedColumn else Ok (labelled asked text))
    else if not asked.head_is_said && is_cell asked.layout asked all text then Err HeadExpected
    else next_column asked.layout asked all (unlabelled asked before) text

-- All columns of a head, from the left.
abbrev pub columns_of : Asked → List (List ℕ) → List (Result Column TableKind)
columns_of asked texts = map (λ at. column_of asked texts (take at.0 texts) at.1) (enumerate_from 0 texts)

-- the names of the candidates in number order
abbrev pub names_in : Layout → Asked → List (List ℕ) → List (List ℕ)
names_in layout.Ranks asked texts = map (name_of asked) (unlabelled asked texts)
names_in layout.Choices asked texts = asked.candidates
names_in layout.List asked texts = asked.candidates

abbrev pub names_of : Asked → List (List ℕ) → List (List ℕ)
names_of asked texts = names_in asked.layout asked texts

abbrev pub fault_at : TableKind → ℕ → Fault
fault_at kind i = record { kind = kind; place = i + 1 }

-- the first label that no text is
abbrev pub no_column : Asked → List (List ℕ) → Option Fault
no_column asked texts =
    option_map (fault_at NoColumn) (position (λ label. not (is_in texts label)) asked.labels)

-- no text but labels, of which none is of a column that is read: one is expected after the last
abbrev pub column_expected : Asked → List (List ℕ) → Option Fault
column_expected asked texts =
    if length (unlabelled asked texts) == 0 && not (are_chosen asked.layout asked.chosen) then Some (fault_at ColumnExpected (length texts)) else None

-- the first of the withdrawn who is no candidate
abbrev pub bad_withdrawn : Asked → List (List ℕ) → Option Fault
bad_withdrawn asked texts =
    option_map (fault_at BadWithdrawn)
    (position (λ n. n == 0 || nat_lt (length (names_of asked texts)) n) asked.withdrawn)

-- The first fault of a head, if one is there.
abbrev pub head_fault : Asked → List (List ℕ) → Option Fault
head_fault asked texts =
    option_or (first_fault (columns_of asked texts))
    (option_or (no_column asked texts)
    (option_or (column_expected asked texts) (bad_withdrawn asked texts)))

-- the columns of a head without a fault
abbrev pub columns : Asked → List (List ℕ) → List Column
columns asked texts = sound (columns_of asked texts)
