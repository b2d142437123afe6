-- A sheet as JSON, in one line. 44 is the comma, and 10 the line feed.
use Rattle.std.specs.Prelude.{ℕ, ◌+◌, Bool, true, false, zero, suc, List, [], ◌∷◌, ◌++◌, length, codes, decimal, slice_index}
use Rattle.std.specs.List.{flat_map}
use Rattle.candidate_roll.specs.State.{state_at}
use Rattle.fixed_place.specs.Text.{text_of}
use Rattle.lot_order.specs.Flags.{mark_at}
use Rattle.meek_rule.specs.Row.{Row}
use Rattle.sheet_text.specs.Lines.{state_word}
use Rattle.sheet_reader.specs.Values.{SheetList}
use Rattle.sheet_minutes.specs.Rounds.{row_at}
use Rattle.sheet_words.specs.Facts.{by_lots, last_seats}
use Rattle.sheet_page.specs.JsonText.{string_text}
use Rattle.sheet_page.specs.Values.{all_places, name_at, step_word, defeats}

-- parts one after another
abbrev pub joined : List (List ℕ) → List ℕ
joined parts = flat_map (λ part. part) parts

abbrev pub truth : Bool → List ℕ
truth true = codes "true"
truth false = codes "false"

-- what is before the item at a place of a list
abbrev pub comma_at : (p : ℕ) → List ℕ
comma_at zero = []
comma_at (suc p) = 44 ∷ []

-- amounts are strings, so that no reader rounds them
abbrev pub amount : (places : ℕ) → ℕ → List ℕ
amount places units = string_text (text_of places units)

-- a candidate of the roll, and what became of it
abbrev pub candidate_json : SheetList → (p : ℕ) → List ℕ
candidate_json v p =
    joined (
    comma_at p ∷ codes "{\"number\":" ∷ decimal (p + 1) ∷ codes ",\"name\":" ∷ string_text (name_at v p)
    ∷ codes ",\"outcome\":" ∷ string_text (state_word (state_at v.last p)) ∷ codes "}" ∷ []
    )

-- a candidate in an iteration: its state and keep value before it, and its vote in it
abbrev pub vote_json : (places : ℕ) → Row → (p : ℕ) → List ℕ
vote_json places row p =
    joined (
    comma_at p ∷ codes "{\"number\":" ∷ decimal (p + 1) ∷ codes ",\"state\":" ∷ string_text (state_word (state_at row.states p))
    ∷ codes ",\"keep\":" ∷ amount places (slice_index row.keeps p) ∷ codes ",\"vote\":" ∷ amount places (slice_index row.votes p) ∷ []
    )

-- what an iteration decided of a candidate
abbrev pub won_json : (elected capped : List ℕ) → List ℕ
won_json elected capped = joined (codes ",\"elected\":" ∷ elected ∷ codes ",\"capped\":" ∷ capped ∷ [])

abbrev pub lost_json : (tied defeated : List ℕ) → List ℕ
lost_json tied defeated = joined (codes ",\"tied\":" ∷ tied ∷ codes ",\"defeated\":" ∷ defeated ∷ codes "}" ∷ [])

abbrev pub standing_json : (places : ℕ) → Row → (p : ℕ) → List ℕ
standing_json places row p =
    vote_json places row p
    ++ (won_json (truth (mark_at row.elected p)) (truth (mark_at row.capped p))
    ++ lost_json (truth (mark_at row.tied p)) (truth (defeats row.step (p + 1))))

-- the numbers and amounts of an iteration, its step, and what its sentences say of lots and of the last seats
abbrev pub amounts_json : (places i : ℕ) → Row → (lots : List ℕ) → (seats : ℕ) → List ℕ
amounts_json places i row lots seats =
    joined (
    comma_at i ∷ codes "{\"round\":" ∷ decimal row.round ∷ codes ",\"iteration\":" ∷ decimal row.iteration
    ∷ codes ",\"total\":" ∷ amount places row.total ∷ codes ",\"quota\":" ∷ amount places row.quota ∷ codes ",\"surplus\":" ∷ amount places row.surplus
    ∷ codes ",\"step\":" ∷ string_text (step_word row.step) ∷ codes ",\"by_lots\":" ∷ lots ∷ codes ",\"last_seats\":" ∷ decimal seats
    ∷ codes ",\"candidates\":[" ∷ []
    )

-- an iteration of a count for so many seats
abbrev pub iteration_json : (places seats i : ℕ) → Row → List ℕ
iteration_json places seats i row =
    amounts_json places i row (truth (by_lots row)) (last_seats seats row)
    ++ (flat_map (standing_json places row) (all_places (length row.states)) ++ codes "]}")

abbrev pub iteration_at : (places : ℕ) → SheetList → (i : ℕ) → List ℕ
iteration_at places v i = iteration_json places v.seats i (row_at v.rows i)

-- the title, and the numbers of seats and ballots
abbrev pub head_json : SheetList → List ℕ
head_json v =
    joined (
    codes "{\"title\":" ∷ string_text v.title ∷ codes ",\"seats\":" ∷ decimal v.seats ∷ codes ",\"ballots\":" ∷ decimal v.ballots
    ∷ codes ",\"candidates\":[" ∷ []
    )

-- the whole object
abbrev pub sheet_json : (places : ℕ) → SheetList → List ℕ
sheet_json places v =
    head_json v
    ++ (flat_map (candidate_json v) (all_places (length v.names))
    ++ (codes "],\"iterations\":[" ++ (flat_map (iteration_at places v) (all_places (length v.rows)) ++ codes "]}")))

abbrev pub json_of : (places : ℕ) → SheetList → List ℕ
json_of places v = sheet_json places v ++ 10 ∷ []
