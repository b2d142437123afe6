-- What the JSON of a day says.
use Rattle.std.specs.Prelude.{ℕ, Bool, true, false, List, [], ◌∷◌, codes, map}
use Rattle.batch_core.specs.declared.entry.Entry.{Entry}
use Rattle.day_lines.specs.EntryText.{call_text, numbered, reply_text}
use Rattle.day_text.specs.declared.batch_end.BatchEnd.{BatchEnd}
use Rattle.day_text.specs.End.{day_end}
use Rattle.day_text.specs.Values.{DayTextList, FrozenSheet}
use Rattle.sheet_page.specs.JsonGrammar.{Json, Whole, Truth}
use Rattle.sheet_page.specs.JsonValues.{array, object, said, sheet_value}

-- the n-th call: its number, the number of who called, and the words of the call and of its answer
abbrev pub call_value : (n : ℕ) → Entry → Json
call_value n e =
    object (
    (codes "number", Whole n) ∷ (codes "caller", Whole e.caller) ∷ (codes "call", said (call_text e.call))
    ∷ (codes "answer", said (reply_text e.reply)) ∷ []
    )

-- a batch that was entered: its number, its last revision, and whether it stands
abbrev pub batch_value : BatchEnd → Json
batch_value b =
    object ((codes "number", Whole b.number) ∷ (codes "revision", Whole b.revision) ∷ (codes "stands", Truth b.stands) ∷ [])

-- a freeze: the number of its call, whether it is the office's own, and its sheet
abbrev pub freeze_value : (places : ℕ) → (own : Bool) → FrozenSheet → Json
freeze_value places own s =
    object ((codes "at", Whole s.freeze) ∷ (codes "own", Truth own) ∷ (codes "sheet", sheet_value places s.values) ∷ [])

-- The last one is the office's own, and no other.
abbrev pub freeze_values : (places : ℕ) → List FrozenSheet → List Json
freeze_values places [] = []
freeze_values places (s ∷ []) = freeze_value places true s ∷ []
freeze_values places (s ∷ next ∷ sheets) = freeze_value places false s ∷ freeze_values places (next ∷ sheets)

-- all calls in their order, what they come to, and the freezes in their order
abbrev pub day_value : (places : ℕ) → DayTextList → Json
day_value places v =
    object (
    (codes "calls", array (map (λ e. call_value e.0 e.1) (numbered v.history)))
    ∷ (codes "batches", array (map batch_value (day_end v.history).batches))
    ∷ (codes "struck", array (map Whole (day_end v.history).struck))
    ∷ (codes "freezes", array (freeze_values places v.sheets)) ∷ []
    )
