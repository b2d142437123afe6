-- A day as JSON, in one line. 44 is the comma, and 10 the line feed.
use Rattle.std.specs.Prelude.{ℕ, List, [], ◌∷◌, ◌++◌, codes, decimal, length, map, nat_eq}
use Rattle.std.specs.List.{flat_map}
use Rattle.batch_core.specs.declared.entry.Entry.{Entry}
use Rattle.day_lines.specs.EntryText.{call_text, numbered, reply_text}
use Rattle.day_text.specs.declared.batch_end.BatchEnd.{BatchEnd}
use Rattle.day_text.specs.End.{DayEndList, day_end}
use Rattle.day_text.specs.Values.{DayTextList, FrozenSheet}
use Rattle.sheet_reader.specs.Values.{SheetList}
use Rattle.sheet_page.specs.Json.{joined, sheet_json, truth}
use Rattle.sheet_page.specs.JsonText.{string_text}

-- pieces with a comma between two
abbrev pub listed : List (List ℕ) → List ℕ
listed [] = []
listed (piece ∷ pieces) = piece ++ flat_map (λ other. 44 ∷ other) pieces

-- ---- the calls

-- a call: its number, who called (0 is the clerk), what was called, and what was answered
abbrev pub answered_json : (number caller : ℕ) → (call reply : List ℕ) → List ℕ
answered_json number caller call reply =
    joined (
    codes "{\"number\":" ∷ decimal number ∷ codes ",\"caller\":" ∷ decimal caller ∷ codes ",\"call\":" ∷ string_text call
    ∷ codes ",\"answer\":" ∷ string_text reply ∷ codes "}" ∷ []
    )

-- the n-th call, in the words of the text of the day
abbrev pub call_json : (n : ℕ) → Entry → List ℕ
call_json n e = answered_json n e.caller (call_text e.call) (reply_text e.reply)

abbrev pub calls_json : List Entry → List ℕ
calls_json history = codes "{\"calls\":[" ++ listed (map (λ e. call_json e.0 e.1) (numbered history))

-- ---- what is in the end

-- a batch that was entered, with its last revision, and whether it stands
abbrev pub batch_json : BatchEnd → List ℕ
batch_json b =
    joined (
    codes "{\"number\":" ∷ decimal b.number ∷ codes ",\"revision\":" ∷ decimal b.revision ∷ codes ",\"stands\":" ∷ truth b.stands
    ∷ codes "}" ∷ []
    )

abbrev pub stands_json : List BatchEnd → (struck : List ℕ) → List ℕ
stands_json batches struck =
    codes "],\"batches\":[" ++ (listed (map batch_json batches) ++ (codes "],\"struck\":[" ++ listed (map decimal struck)))

abbrev pub end_json : DayEndList → List ℕ
end_json end = stands_json end.batches end.struck

-- ---- the freezes

-- the number of a freeze's call, and whether it is the office's own, up to its sheet
abbrev pub freeze_head : (freeze : ℕ) → (own : List ℕ) → List ℕ
freeze_head freeze own = joined (codes "{\"at\":" ∷ decimal freeze ∷ codes ",\"own\":" ∷ own ∷ codes ",\"sheet\":" ∷ [])

abbrev pub frozen_json : (places freeze : ℕ) → (own : List ℕ) → SheetList → List ℕ
frozen_json places freeze own v = freeze_head freeze own ++ (sheet_json places v ++ codes "}")

-- a freeze of so many calls: the last call is the office's own
abbrev pub freeze_json : (places calls : ℕ) → FrozenSheet → List ℕ
freeze_json places calls s = frozen_json places s.freeze (truth (nat_eq s.freeze calls)) s.values

abbrev pub freezes_json : (places calls : ℕ) → List FrozenSheet → List ℕ
freezes_json places calls sheets = codes "],\"freezes\":[" ++ (listed (map (freeze_json places calls) sheets) ++ codes "]}")

-- ---- the whole day

-- calls, what is in the end, and sheets
abbrev pub json_with : (places : ℕ) → List Entry → List FrozenSheet → DayEndList → List ℕ
json_with places history sheets end = calls_json history ++ (end_json end ++ freezes_json places (length history) sheets)

abbrev pub day_json : (places : ℕ) → DayTextList → List ℕ
day_json places v = json_with places v.history v.sheets (day_end v.history) ++ 10 ∷ []
