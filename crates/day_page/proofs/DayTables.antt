-- The table of the calls of a day, as it is read back.
use Rattle.std.proofs.Common.{◌≡◌, ◌∙◌, refl, sym, ℕ, ◌+◌, ◌≤◌, List, [], ◌∷◌, ◌++◌, append_assoc, arith, length, map}
use Rattle.std.specs.Prelude.{All, decimal}
use Rattle.std.specs.List.{enumerate_from}
use Rattle.std.proofs.lemmas.List.Elements.{All-cons, All-nil}
use Rattle.batch_core.specs.declared.entry.Entry.{Entry}
use Rattle.csv_text.specs.Laws.{RecordsReadBack}
use Rattle.day_lines.specs.EntryText.{call_text, caller_text, entry_line, reply_text}
use Rattle.day_page.specs.DayCsv.{entry_record, table_head, table_records}
use Rattle.day_page.specs.Laws.{RowsSayTheirCalls, TablesOfCallsAreReadBack, fields_of, spaced}

abbrev HasFields : List (List ℕ) → Type 0
HasFields fields = 1 ≤ length fields

have_fields :
    (n : ℕ) (history : List Entry) → All HasFields (map (λ e. entry_record e.0 e.1) (enumerate_from n history))
have_fields n [] = All-nil HasFields
have_fields n (e ∷ history) =
    All-cons HasFields (entry_record n e) (map (λ e. entry_record e.0 e.1) (enumerate_from (n + 1) history))
    (omega arith) (have_fields (n + 1) history)

pub tables_read : RecordsReadBack → TablesOfCallsAreReadBack
tables_read back v =
    back (table_records v.history)
    (All-cons HasFields table_head (map (λ e. entry_record e.0 e.1) (enumerate_from 1 v.history)) (omega arith)
    (have_fields 1 v.history))

row_said : (e : ℕ × Entry) → spaced (fields_of e) ≡ entry_line e.0 e.1
row_said e =
    let number = decimal e.0 in
    let caller = caller_text e.1.caller in
    let call = call_text e.1.call in
    let reply = reply_text e.1.reply in
    sym (append_assoc number (32 ∷ caller) (32 ∷ (call ++ 32 ∷ reply)))
    ∙ sym (append_assoc (number ++ 32 ∷ caller) (32 ∷ call) (32 ∷ reply))

rows_from :
    (n : ℕ) (history : List Entry)
    → map spaced (map fields_of (enumerate_from n history)) ≡ map (λ e. entry_line e.0 e.1) (enumerate_from n history)
rows_from n [] = refl
rows_from n (e ∷ history) = λ j. row_said (n, e) j ∷ rows_from (n + 1) history j

pub rows_say : RowsSayTheirCalls
rows_say v = rows_from 1 v.history
