-- The table of rounds: a line for each candidate, and a column for each round of a block.
use Rattle.std.specs.Prelude.{ℕ, ⊤, ◌<◌, ◌+◌, ◌/◌, max, List, [], ◌∷◌, ◌++◌, codes, decimal, length, map, slice_index, slice_index_or}
use Rattle.std.specs.List.{flat_map, range_with_len}
use Rattle.std.specs.Str.{encode_utf8_all}
use Rattle.candidate_roll.specs.State.{state_at}
use Rattle.candidate_roll.specs.declared.state.State.{State}
use Rattle.candidate_roll.specs.declared.state.State.TheVariants.{Hopeful, Elected, Defeated, Withdrawn}
use Rattle.fixed_place.specs.Text.{text_of}
use Rattle.meek_rule.specs.Row.{Row}
use Rattle.sheet_reader.specs.Values.{SheetList}
use Rattle.sheet_text.specs.Lines.{ended}
use Rattle.sheet_minutes.specs.declared.columns.TheConstants.{MARK_COLUMNS, NUMBER_COLUMNS, ROUND_COLUMNS}
use Rattle.sheet_minutes.specs.declared.entry.Entry.{Entry}
use Rattle.sheet_minutes.specs.declared.entry.Entry.TheVariants.{Round, Quota, LeftOver, Candidate}
use Rattle.sheet_minutes.specs.Columns.{at_right, name_columns}
use Rattle.sheet_minutes.specs.Rounds.{cut, left_over, rounds_of, row_at, states_behind}

-- ---- how wide a number is

-- the columns of the widest of some amounts
abbrev pub widest : (places : ℕ) → List ℕ → ℕ
widest places [] = 0
widest places (amount ∷ amounts) = max (length (text_of places amount)) (widest places amounts)

-- the columns of the widest quota, vote or amount left over of some iterations
abbrev pub widest_of : (places ballots : ℕ) → List Row → ℕ
widest_of places ballots [] = 0
widest_of places ballots (row ∷ rows) = max (widest places (row.quota ∷ left_over places ballots row ∷ row.votes)) (widest_of places ballots rows)

abbrev pub width_of : (places : ℕ) → SheetList → ℕ
width_of places v = widest_of places v.ballots v.rows

-- ---- a line

-- A line is about the rounds, or about one of n candidates.
abbrev pub IsAbout : (n : ℕ) → Entry → Type 0
IsAbout n Round = ⊤
IsAbout n Quota = ⊤
IsAbout n LeftOver = ⊤
IsAbout n (Candidate p) = p < n

-- what a candidate is, in one column: 72 is H, 69 is E, 68 is D and 87 is W
abbrev pub mark : State → ℕ
mark Hopeful = 72
mark Elected = 69
mark Defeated = 68
mark Withdrawn = 87

-- what is at the left of a line: of a candidate its number and so many columns of its name
abbrev pub label : SheetList → Entry → List ℕ
label v Round = codes "Round               "
label v Quota = codes "Quota               "
label v LeftOver = codes "On no candidate     "
label v (Candidate p) =
    at_right NUMBER_COLUMNS (decimal (p + 1)) ++ 32 ∷ encode_utf8_all (name_columns (slice_index_or v.names p []))

-- What a line says of the round whose last iteration is at a place: of a candidate what it is after the round, and its vote at
-- the end of it. The numbers stand at the right.
abbrev pub cell : (places : ℕ) → SheetList → (width : ℕ) → Entry → (i : ℕ) → List ℕ
cell places v width Round i = at_right (width + MARK_COLUMNS) (decimal (row_at v.rows i).round)
cell places v width Quota i = at_right (width + MARK_COLUMNS) (text_of places (row_at v.rows i).quota)
cell places v width LeftOver i = at_right (width + MARK_COLUMNS) (text_of places (left_over places v.ballots (row_at v.rows i)))
cell places v width (Candidate p) i =
    32 ∷ mark (state_at (states_behind v i) p) ∷ 32 ∷ at_right width (text_of places (slice_index (row_at v.rows i).votes p))

abbrev pub line : (places : ℕ) → SheetList → (width : ℕ) → (block : List ℕ) → Entry → List ℕ
line places v width block entry = label v entry ++ flat_map (cell places v width entry) block

-- ---- blocks

-- the lines of a block, from above
abbrev pub entries : (candidates : ℕ) → List Entry
entries candidates = Round ∷ Quota ∷ LeftOver ∷ map Candidate (range_with_len 0 candidates)

abbrev pub block_lines : (places : ℕ) → SheetList → (width : ℕ) → (block : List ℕ) → List (List ℕ)
block_lines places v width block = map (line places v width block) (entries (length v.names))

-- as many rounds as the columns have room for
abbrev pub blocks : (places : ℕ) → SheetList → List (List ℕ)
blocks places v = cut (ROUND_COLUMNS / (width_of places v + MARK_COLUMNS)) (rounds_of v.rows)

-- an empty line, and a block
abbrev pub block_text : (places : ℕ) → SheetList → (width : ℕ) → (block : List ℕ) → List ℕ
block_text places v width block = 10 ∷ flat_map ended (block_lines places v width block)

-- 10 is the line feed that ends a line
abbrev pub table_head : List ℕ
table_head =
    10 ∷ codes "Votes at the end of each round"
    ++ (10 ∷ codes "Behind each round: H hopeful, E elected, D defeated, W withdrawn" ++ 10 ∷ [])

abbrev pub table_text : (places : ℕ) → SheetList → List ℕ
table_text places v = table_head ++ flat_map (block_text places v (width_of places v)) (blocks places v)
