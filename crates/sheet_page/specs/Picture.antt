-- The picture of a round: its votes as bars, and its quota as a line.
use Rattle.std.specs.Prelude.{ℕ, ◌+◌, ◌*◌, ◌/◌, max, min, if◌then◌else◌, List, [], ◌∷◌, ◌++◌, length, codes, decimal, nat_eq, slice_index}
use Rattle.candidate_roll.specs.State.{state_at}
use Rattle.fixed_place.specs.Text.{text_of}
use Rattle.meek_rule.specs.Row.{Row}
use Rattle.page_tree.specs.Trees.{Attribute, Trees, Nothing}
use Rattle.sheet_text.specs.Lines.{state_word}
use Rattle.sheet_reader.specs.Values.{SheetList}
use Rattle.sheet_minutes.specs.Rounds.{left_over}
use Rattle.sheet_page.specs.Bars.{bars_before, bars_of, has_bar, rest_count, rest_votes}
use Rattle.sheet_page.specs.Trees.{all, each, el, words, at}
use Rattle.sheet_page.specs.Values.{all_places, name_at}

-- the greatest of some amounts
abbrev pub greatest : List ℕ → ℕ
greatest [] = 0
greatest (x ∷ xs) = max x (greatest xs)

-- the greatest quota or vote of a sheet, which has the whole width
abbrev pub full_of : List Row → ℕ
full_of [] = 0
full_of (row ∷ rows) = max (max row.quota (greatest row.votes)) (full_of rows)

abbrev pub width : ℕ
width = 400

-- an amount scaled to the width, where the full amount has all of it, rounded down
abbrev pub scaled : (full x : ℕ) → ℕ
scaled full x = if nat_eq full 0 then 0 else min width (x * width / full)

-- ---- the bars, each below its label

-- a name in a picture, set apart from what stands around it by the style of its kind of element
abbrev pub name_within : (name : List ℕ) → Trees
name_within name = el (codes "tspan") [] (words name ∷ [])

abbrev pub label : (places y : ℕ) → (name : List ℕ) → (number : ℕ) → (state : List ℕ) → (vote : ℕ) → Trees
label places y name number state vote =
    el (codes "text") (at (codes "class") state ∷ at (codes "y") (decimal y) ∷ []) (
    words state ∷ words (codes " ") ∷ words (text_of places vote) ∷ words (codes " ") ∷ name_within name
    ∷ words (codes " (") ∷ words (decimal number) ∷ words (codes ")") ∷ []
    )

abbrev pub rectangle : (y length : ℕ) → (state : List ℕ) → Trees
rectangle y length state =
    el (codes "rect") (
    at (codes "class") state ∷ at (codes "y") (decimal y) ∷ at (codes "width") (decimal length)
    ∷ at (codes "height") (codes "12") ∷ []
    ) []

-- a candidate's vote at the end of a round, and what it is after it
abbrev pub label_at : (places : ℕ) → SheetList → Row → (p : ℕ) → Trees
label_at places v row p = label places (bars_before row p * 36 + 16) (name_at v p) (p + 1) (state_word (state_at row.states p)) (slice_index row.votes p)

abbrev pub rectangle_at : (full : ℕ) → Row → (p : ℕ) → Trees
rectangle_at full row p = rectangle (bars_before row p * 36 + 21) (scaled full (slice_index row.votes p)) (state_word (state_at row.states p))

abbrev pub bar : (places : ℕ) → SheetList → (full : ℕ) → Row → (p : ℕ) → Trees
bar places v full row p = all (label_at places v row p ∷ rectangle_at full row p ∷ [])

-- the bar of a candidate, if it has one
abbrev pub bar_at : (places : ℕ) → SheetList → (full : ℕ) → Row → (p : ℕ) → Trees
bar_at places v full row p = if has_bar row p then bar places v full row p else Nothing

-- ---- the whole picture

-- the text of who does not see it
abbrev pub picture_title : (round : ℕ) → Trees
picture_title round =
    el (codes "title") [] (
    words (codes "Votes at the end of round ") ∷ words (decimal round)
    ∷ words (codes ": a bar for each candidate who stands in it, of more than 24 for those with the most votes, and the quota as a line. The table above has the numbers.")
    ∷ []
    )

-- The quota as a line down over so many bars. It begins at the first bar, below its label, and is broken so that no label is
-- struck out: 16 points over a bar, and 20 left open for the next label.
abbrev pub quota_line : (x bars : ℕ) → Trees
quota_line x bars =
    el (codes "line") (
    at (codes "x1") (decimal x) ∷ at (codes "x2") (decimal x) ∷ at (codes "y1") (codes "20")
    ∷ at (codes "y2") (decimal (bars * 36)) ∷ at (codes "stroke-dasharray") (codes "16 20") ∷ []
    ) []

-- the part of the plane that is seen, with room for so many bars
abbrev pub view_box : (bars : ℕ) → List ℕ
view_box bars = codes "0 0 400 " ++ decimal (bars * 36)

abbrev pub attributes_of : (view : List ℕ) → List Attribute
attributes_of view = at (codes "role") (codes "img") ∷ at (codes "viewBox") view ∷ []

abbrev pub picture_attributes : (bars : ℕ) → List Attribute
picture_attributes bars = attributes_of (view_box bars)

abbrev pub picture : (places : ℕ) → SheetList → (full : ℕ) → Row → Trees
picture places v full row =
    el (codes "svg") (picture_attributes (bars_of row)) (
    picture_title row.round ∷ each (bar_at places v full row) (all_places (length v.names))
    ∷ quota_line (scaled full row.quota) (bars_of row) ∷ []
    )

-- ---- what is said of the amounts of a round

-- the quota, and what is left on no candidate
abbrev pub amounts_text : (places quota left : ℕ) → Trees
amounts_text places quota left =
    all (
    words (codes "Quota ") ∷ words (text_of places quota) ∷ words (codes ": the broken line. On no candidate: ")
    ∷ words (text_of places left) ∷ words (codes ".") ∷ []
    )

-- how many stand and have no bar, and their votes together
abbrev pub rest_text : (count : ℕ) → (votes : List ℕ) → Trees
rest_text count votes =
    all (
    words (codes " With fewer votes and without a bar: ") ∷ words (decimal count)
    ∷ words (codes ". Their votes together: ") ∷ words votes ∷ words (codes ".") ∷ []
    )

-- of these, if there are any
abbrev pub rest_part : (places : ℕ) → Row → Trees
rest_part places row = if nat_eq (rest_count row) 0 then Nothing else rest_text (rest_count row) (text_of places (rest_votes row))

abbrev pub amounts_of : (places ballots : ℕ) → Row → Trees
amounts_of places ballots row = el (codes "p") [] (amounts_text places row.quota (left_over places ballots row) ∷ rest_part places row ∷ [])

abbrev pub round_picture : (places : ℕ) → SheetList → (full : ℕ) → Row → Trees
round_picture places v full row = all (amounts_of places v.ballots row ∷ picture places v full row ∷ [])
