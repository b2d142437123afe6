-- A day as a text for a terminal, a mail or the minutes. 10 ends a line, and 32 is a space.
use Rattle.std.specs.Prelude.{ℕ, ◌-◌, List, [], ◌∷◌, ◌++◌, codes, decimal, length, replicate}
use Rattle.std.specs.List.{flat_map}
use Rattle.batch_core.specs.declared.entry.Entry.{Entry}
use Rattle.day_lines.specs.EntryText.{call_text, caller_text, numbered, reply_text}
use Rattle.day_text.specs.declared.batch_end.BatchEnd.{BatchEnd}
use Rattle.day_text.specs.End.{DayEndList, day_end}
use Rattle.day_text.specs.Values.{DayTextList, FrozenSheet}
use Rattle.sheet_reader.specs.Values.{SheetList}
use Rattle.sheet_minutes.specs.Columns.{at_right}
use Rattle.sheet_minutes.specs.Minutes.{minutes_text}
use Rattle.day_page.specs.EndPart.{fate}
use Rattle.day_page.specs.Freezes.{whose}
use Rattle.day_page.specs.Lists.{own_first}

-- ---- the calls

-- a text at the left of so many columns
abbrev pub at_left : (width : ℕ) → (text : List ℕ) → List ℕ
at_left width text = text ++ replicate (width - length text) 32

-- a call: its number, who called, what was called, and what was answered, each in its column
abbrev pub call_line : (number : ℕ) → (caller call reply : List ℕ) → List ℕ
call_line number caller call reply =
    at_right 6 (decimal number) ++ (32 ∷ at_left 8 caller ++ (at_left 19 call ++ (reply ++ 10 ∷ [])))

abbrev pub answered_line : (n : ℕ) → Entry → List ℕ
answered_line n e = call_line n (caller_text e.caller) (call_text e.call) (reply_text e.reply)

abbrev pub calls_text : List Entry → List ℕ
calls_text history =
    codes "A day of ballot entry\n\nCalls\nNumber Who     Call               Answer\n"
    ++ flat_map (λ e. answered_line e.0 e.1) (numbered history)

-- ---- what is in the end

abbrev pub batch_line : BatchEnd → List ℕ
batch_line b = codes "Batch " ++ (decimal b.number ++ (fate b.stands ++ (decimal b.revision ++ codes ".\n")))

abbrev pub struck_line : (candidate : ℕ) → List ℕ
struck_line candidate = codes "Candidate " ++ (decimal candidate ++ codes " was struck.\n")

abbrev pub counts_text : (batches struck : ℕ) → List ℕ
counts_text batches struck =
    codes "\nWhat stands in the end\nBatches that were entered: "
    ++ (decimal batches ++ (codes ". Candidates who were struck: " ++ (decimal struck ++ codes ".\n")))

abbrev pub stands_text : List BatchEnd → (struck : List ℕ) → List ℕ
stands_text batches struck =
    counts_text (length batches) (length struck) ++ (flat_map batch_line batches ++ flat_map struck_line struck)

abbrev pub end_text : DayEndList → List ℕ
end_text end = stands_text end.batches end.struck

-- ---- the sheets

abbrev pub title_text : (freeze : ℕ) → (whose : List ℕ) → List ℕ
title_text freeze whose =
    codes "\nFreeze " ++ (decimal freeze ++ (whose ++ (codes ": what stands after call " ++ (decimal freeze ++ codes "\n\n"))))

-- a freeze, whose it is, and the text of its sheet
abbrev pub titled_text : (places freeze : ℕ) → (whose : List ℕ) → SheetList → List ℕ
titled_text places freeze whose v = title_text freeze whose ++ minutes_text places v

-- a freeze of so many calls
abbrev pub freeze_text : (places calls : ℕ) → FrozenSheet → List ℕ
freeze_text places calls s = titled_text places s.freeze (whose calls s.freeze) s.values

-- ---- the whole text

-- calls, what is in the end, and sheets
abbrev pub minutes_with : (places : ℕ) → List Entry → List FrozenSheet → DayEndList → List ℕ
minutes_with places history sheets end =
    calls_text history ++ (end_text end ++ flat_map (freeze_text places (length history)) (own_first sheets))

abbrev pub day_minutes : (places : ℕ) → DayTextList → List ℕ
day_minutes places v = minutes_with places v.history v.sheets (day_end v.history)
