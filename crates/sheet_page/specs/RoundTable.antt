-- The table of votes: a line for each candidate, and a column for each round.
use Rattle.std.specs.Prelude.{ℕ, ◌+◌, ◌-◌, if◌then◌else◌, List, [], ◌∷◌, length, codes, decimal, take, drop, slice_index}
use Rattle.candidate_roll.specs.State.{state_at}
use Rattle.fixed_place.specs.Text.{text_of}
use Rattle.meek_rule.specs.Row.{Row}
use Rattle.page_tree.specs.Trees.{Attribute, Trees, Nothing}
use Rattle.sheet_text.specs.Lines.{state_word}
use Rattle.sheet_reader.specs.Values.{SheetList}
use Rattle.sheet_minutes.specs.declared.entry.Entry.{Entry}
use Rattle.sheet_minutes.specs.declared.entry.Entry.TheVariants.{Round, Quota, LeftOver, Candidate}
use Rattle.sheet_minutes.specs.Rounds.{ends_round, left_over, row_at}
use Rattle.sheet_page.specs.declared.part_names.PartNames.{PartNames}
use Rattle.sheet_page.specs.Links.{link_to}
use Rattle.sheet_page.specs.RoundEnds.{settled_at}
use Rattle.sheet_page.specs.Trees.{at, candidate, each, el, words}
use Rattle.sheet_page.specs.Values.{all_places, name_at}

-- ---- amounts

-- The text of an amount in two parts: up to the second digit after the point, and the other digits.
abbrev pub main_digits : (places : ℕ) → (text : List ℕ) → List ℕ
main_digits places text = take (length text - (places - 2)) text

abbrev pub other_digits : (places : ℕ) → (text : List ℕ) → List ℕ
other_digits places text = drop (length text - (places - 2)) text

-- an amount, the second part in smaller type, and what is after it
abbrev pub figure : (main other : List ℕ) → List Trees → List Trees
figure main other behind = words main ∷ el (codes "small") [] (words other ∷ []) ∷ behind

abbrev pub figure_cell : (main other : List ℕ) → Trees
figure_cell main other = el (codes "td") [] (figure main other [])

abbrev pub amount_cell : (places amount : ℕ) → Trees
amount_cell places amount = figure_cell (main_digits places (text_of places amount)) (other_digits places (text_of places amount))

-- votes, and a state
abbrev pub standing_cell : (main other state : List ℕ) → Trees
standing_cell main other state =
    el (codes "td") [] (figure main other (words (codes " ") ∷ el (codes "em") [] (words state ∷ []) ∷ []))

-- a candidate's vote at the end of a round, and what it is after it
abbrev pub vote_cell : (places : ℕ) → Row → (p : ℕ) → Trees
vote_cell places row p =
    standing_cell (main_digits places (text_of places (slice_index row.votes p))) (other_digits places (text_of places (slice_index row.votes p)))
    (state_word (state_at row.states p))

abbrev pub column_attributes : List Attribute
column_attributes = at (codes "scope") (codes "col") ∷ []

-- the number of a round, which leads to its part
abbrev pub round_head : (target : List ℕ) → (round : ℕ) → Trees
round_head target round =
    el (codes "th") column_attributes (el (codes "a") (at (codes "href") target ∷ []) (words (decimal round) ∷ []) ∷ [])

-- ---- what a line says of the rounds

-- Of the round that ends at a place: its number, its quota, the votes that are left on no candidate, or a candidate's vote and state.
abbrev pub round_cell : PartNames → (places : ℕ) → SheetList → Entry → (i : ℕ) → Trees
round_cell names places v Round i = round_head (link_to names i) (row_at v.rows i).round
round_cell names places v Quota i = amount_cell places (row_at v.rows i).quota
round_cell names places v LeftOver i = amount_cell places (left_over places v.ballots (row_at v.rows i))
round_cell names places v (Candidate p) i = vote_cell places (settled_at v i) p

abbrev pub cell_at : PartNames → (places : ℕ) → SheetList → Entry → (i : ℕ) → Trees
cell_at names places v entry i = if ends_round v.rows i then round_cell names places v entry i else Nothing

abbrev pub cells : PartNames → (places : ℕ) → SheetList → Entry → Trees
cells names places v entry = each (cell_at names places v entry) (all_places (length v.rows))

-- ---- the head

abbrev pub first_head : Trees
first_head = el (codes "th") column_attributes (words (codes "Candidate") ∷ [])

abbrev pub head_row : PartNames → (places : ℕ) → SheetList → Trees
head_row names places v = el (codes "tr") [] (first_head ∷ cells names places v Round ∷ [])

abbrev pub table_head : PartNames → (places : ℕ) → SheetList → Trees
table_head names places v = el (codes "thead") [] (head_row names places v ∷ [])

-- ---- the lines

abbrev pub line_attributes : List Attribute
line_attributes = at (codes "scope") (codes "row") ∷ []

abbrev pub line_head : (text : List ℕ) → Trees
line_head text = el (codes "th") line_attributes (words text ∷ [])

abbrev pub quota_row : PartNames → (places : ℕ) → SheetList → Trees
quota_row names places v = el (codes "tr") [] (line_head (codes "Quota") ∷ cells names places v Quota ∷ [])

abbrev pub left_row : PartNames → (places : ℕ) → SheetList → Trees
left_row names places v = el (codes "tr") [] (line_head (codes "On no candidate") ∷ cells names places v LeftOver ∷ [])

abbrev pub candidate_head : (name : List ℕ) → (number : ℕ) → Trees
candidate_head name number = el (codes "th") line_attributes (candidate name number [])

abbrev pub candidate_row : PartNames → (places : ℕ) → SheetList → (p : ℕ) → Trees
candidate_row names places v p = el (codes "tr") [] (candidate_head (name_at v p) (p + 1) ∷ cells names places v (Candidate p) ∷ [])

abbrev pub table_body : PartNames → (places : ℕ) → SheetList → Trees
table_body names places v = el (codes "tbody") [] (quota_row names places v ∷ left_row names places v ∷ each (candidate_row names places v) (all_places (length v.names)) ∷ [])

-- ---- the whole table

abbrev pub caption : Trees
caption =
    el (codes "caption") [] (
    words (codes "A line for each candidate, a column for each round: its vote at the end of the round, and what it is behind it. The digits from the third behind the point on are smaller.")
    ∷ []
    )

abbrev pub rounds_table : PartNames → (places : ℕ) → SheetList → Trees
rounds_table names places v = el (codes "table") [] (caption ∷ table_head names places v ∷ table_body names places v ∷ [])

-- a frame in which the table moves, also by the keys, while its heads stay
abbrev pub frame_attributes : List Attribute
frame_attributes =
    at (codes "tabindex") (codes "0") ∷ at (codes "role") (codes "region")
    ∷ at (codes "aria-label") (codes "Votes at the end of each round") ∷ []

abbrev pub table_frame : PartNames → (places : ℕ) → SheetList → Trees
table_frame names places v = el (codes "div") frame_attributes (rounds_table names places v ∷ [])
