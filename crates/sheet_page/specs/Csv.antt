-- A sheet as a table for spreadsheets.
use Rattle.std.specs.Prelude.{ℕ, ◌+◌, Bool, true, false, List, [], ◌∷◌, length, codes, decimal, map, slice_index}
use Rattle.std.specs.List.{flat_map}
use Rattle.candidate_roll.specs.State.{state_at}
use Rattle.csv_text.specs.Csv.{csv_text}
use Rattle.fixed_place.specs.Text.{text_of}
use Rattle.lot_order.specs.Flags.{mark_at}
use Rattle.meek_rule.specs.Row.{Row}
use Rattle.sheet_text.specs.Lines.{state_word}
use Rattle.sheet_reader.specs.Values.{SheetList}
use Rattle.sheet_page.specs.Values.{all_places, name_at, step_word, defeats}

abbrev pub yes_or_no : Bool → List ℕ
yes_or_no true = codes "yes"
yes_or_no false = codes "no"

-- the names of the columns
abbrev pub csv_head : List (List ℕ)
csv_head =
    codes "round" ∷ codes "iteration" ∷ codes "candidate" ∷ codes "name" ∷ codes "outcome" ∷ codes "state" ∷ codes "keep"
    ∷ codes "vote" ∷ codes "elected" ∷ codes "capped" ∷ codes "tied" ∷ codes "defeated" ∷ codes "total" ∷ codes "quota"
    ∷ codes "surplus" ∷ codes "step" ∷ []

-- the candidate at a place in an iteration: its state and keep value before it, its vote in it, and what it decided
abbrev pub csv_record : (places : ℕ) → SheetList → Row → (p : ℕ) → List (List ℕ)
csv_record places v row p =
    decimal row.round ∷ decimal row.iteration ∷ decimal (p + 1) ∷ name_at v p ∷ state_word (state_at v.last p)
    ∷ state_word (state_at row.states p) ∷ text_of places (slice_index row.keeps p) ∷ text_of places (slice_index row.votes p)
    ∷ yes_or_no (mark_at row.elected p) ∷ yes_or_no (mark_at row.capped p) ∷ yes_or_no (mark_at row.tied p)
    ∷ yes_or_no (defeats row.step (p + 1)) ∷ text_of places row.total ∷ text_of places row.quota ∷ text_of places row.surplus
    ∷ step_word row.step ∷ []

-- the candidates of an iteration
abbrev pub row_records : (places : ℕ) → SheetList → Row → List (List (List ℕ))
row_records places v row = map (csv_record places v row) (all_places (length v.names))

-- the head, and a record for each candidate of each iteration
abbrev pub csv_records : (places : ℕ) → SheetList → List (List (List ℕ))
csv_records places v = csv_head ∷ flat_map (row_records places v) v.rows

abbrev pub csv_of : (places : ℕ) → SheetList → List ℕ
csv_of places v = csv_text (csv_records places v)

-- the table after a byte order mark, by which spreadsheets know that it is UTF-8
abbrev pub marked_csv_of : (places : ℕ) → SheetList → List ℕ
marked_csv_of places v = 0xEF ∷ 0xBB ∷ 0xBF ∷ csv_of places v
