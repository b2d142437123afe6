-- The calls of a day as a table for spreadsheets.
use Rattle.std.specs.Prelude.{ℕ, List, [], ◌∷◌, codes, decimal, map}
use Rattle.batch_core.specs.declared.entry.Entry.{Entry}
use Rattle.csv_text.specs.Csv.{csv_text}
use Rattle.day_lines.specs.EntryText.{call_text, caller_text, numbered, reply_text}
use Rattle.day_text.specs.Values.{DayTextList}

-- the names of the columns
abbrev pub table_head : List (List ℕ)
table_head = codes "number" ∷ codes "caller" ∷ codes "call" ∷ codes "answer" ∷ []

-- a call: its number, who called, what was called, and what was answered
abbrev pub call_record : (number : ℕ) → (caller call reply : List ℕ) → List (List ℕ)
call_record number caller call reply = decimal number ∷ caller ∷ call ∷ reply ∷ []

-- the n-th call, in the words of the text of the day
abbrev pub entry_record : (n : ℕ) → Entry → List (List ℕ)
entry_record n e = call_record n (caller_text e.caller) (call_text e.call) (reply_text e.reply)

-- the head, and a record for each call
abbrev pub table_records : List Entry → List (List (List ℕ))
table_records history = table_head ∷ map (λ e. entry_record e.0 e.1) (numbered history)

abbrev pub day_csv : DayTextList → List ℕ
day_csv v = csv_text (table_records v.history)

-- the table after a byte order mark, by which spreadsheets know that it is UTF-8
abbrev pub marked_day_csv : DayTextList → List ℕ
marked_day_csv v = 0xEF ∷ 0xBB ∷ 0xBF ∷ day_csv v
