-- What the JSON of a sheet says. Amounts are texts, so that no reader rounds them.
use Rattle.std.specs.Prelude.{ℕ, ◌+◌, List, [], ◌∷◌, length, codes, map, slice_index}
use Rattle.candidate_roll.specs.State.{state_at}
use Rattle.fixed_place.specs.Text.{text_of}
use Rattle.lot_order.specs.Flags.{mark_at}
use Rattle.meek_rule.specs.Row.{Row}
use Rattle.page_tree.specs.Escaping.{readable}
use Rattle.sheet_text.specs.Lines.{state_word}
use Rattle.sheet_reader.specs.Values.{SheetList}
use Rattle.sheet_minutes.specs.Rounds.{row_at}
use Rattle.sheet_words.specs.Facts.{by_lots, last_seats}
use Rattle.sheet_page.specs.JsonGrammar.{Json, Items, Members, Text, Whole, Truth, Array, Object, NoItem, Item, NoMember, Member}
use Rattle.sheet_page.specs.Values.{all_places, name_at, step_word, defeats}

abbrev pub items_of : List Json → Items
items_of [] = NoItem
items_of (value ∷ values) = Item value (items_of values)

abbrev pub members_of : List (List ℕ × Json) → Members
members_of [] = NoMember
members_of (member ∷ members) = Member member.0 member.1 (members_of members)

abbrev pub array : List Json → Json
array values = Array (items_of values)

abbrev pub object : List (List ℕ × Json) → Json
object members = Object (members_of members)

-- a text in UTF-8, with the replacement sign for each piece that is none
abbrev pub said : (text : List ℕ) → Json
said text = Text (readable text)

abbrev pub said_amount : (places units : ℕ) → Json
said_amount places units = said (text_of places units)

-- a candidate of the roll, and what became of it
abbrev pub candidate_value : SheetList → (p : ℕ) → Json
candidate_value v p =
    object (
    (codes "number", Whole (p + 1)) ∷ (codes "name", said (name_at v p)) ∷ (codes "outcome", said (state_word (state_at v.last p))) ∷ []
    )

-- a candidate in an iteration: its state and keep value before it, its vote in it, and what the iteration decided of it
abbrev pub standing_value : (places : ℕ) → Row → (p : ℕ) → Json
standing_value places row p =
    object (
    (codes "number", Whole (p + 1)) ∷ (codes "state", said (state_word (state_at row.states p)))
    ∷ (codes "keep", said_amount places (slice_index row.keeps p)) ∷ (codes "vote", said_amount places (slice_index row.votes p))
    ∷ (codes "elected", Truth (mark_at row.elected p)) ∷ (codes "capped", Truth (mark_at row.capped p))
    ∷ (codes "tied", Truth (mark_at row.tied p)) ∷ (codes "defeated", Truth (defeats row.step (p + 1))) ∷ []
    )

-- an iteration of a count for so many seats; whether the lots decided in it, and how many seats were left where more had the quota
abbrev pub iteration_value : (places seats : ℕ) → Row → Json
iteration_value places seats row =
    object (
    (codes "round", Whole row.round) ∷ (codes "iteration", Whole row.iteration) ∷ (codes "total", said_amount places row.total)
    ∷ (codes "quota", said_amount places row.quota) ∷ (codes "surplus", said_amount places row.surplus) ∷ (codes "step", said (step_word row.step))
    ∷ (codes "by_lots", Truth (by_lots row)) ∷ (codes "last_seats", Whole (last_seats seats row))
    ∷ (codes "candidates", array (map (standing_value places row) (all_places (length row.states)))) ∷ []
    )

-- the iteration at a place
abbrev pub iteration_value_at : (places : ℕ) → SheetList → (i : ℕ) → Json
iteration_value_at places v i = iteration_value places v.seats (row_at v.rows i)

-- the whole sheet
abbrev pub sheet_value : (places : ℕ) → SheetList → Json
sheet_value places v =
    object (
    (codes "title", said v.title) ∷ (codes "seats", Whole v.seats) ∷ (codes "ballots", Whole v.ballots)
    ∷ (codes "candidates", array (map (candidate_value v) (all_places (length v.names))))
    ∷ (codes "iterations", array (map (iteration_value_at places v) (all_places (length v.rows)))) ∷ []
    )
