-- A text is that of one day at most, and of no sheet then.
use Rattle.std.proofs.Common.{◌≡◌, ℕ, ◌+◌, List, [], ◌∷◌, ◌++◌, get_or, refl, sym, ap, ◌∙◌, arith}
use Rattle.std.specs.Prelude.{decimal, Ok, Err}
use Rattle.std.specs.Fmt.{digits}
use Rattle.batch_core.specs.declared.entry.Entry.{Entry}
use Rattle.sheet_text.specs.Lines.{text_of_lines}
use Rattle.sheet_reader.specs.Laws.{FormSaysItsValues}
use Rattle.sheet_reader.specs.Values.{SheetList, lines_of}
use Rattle.day_lines.specs.EntryText.{entries_text}
use Rattle.day_lines.specs.DayHistory.{EndsWithTheClerk}
use Rattle.day_text.specs.declared.day_stop.DayStop.TheVariants.{Malformed, NoMemory}
use Rattle.day_text.specs.Laws.{DayFormSaysItsValues, WrittenDaysAreRead, NoDayIsASheet}
use Rattle.day_text.specs.Values.{sheets_text}
use Rattle.day_text.proofs.EntryLines.{behind_number, line_is}
use Rattle.day_text.proofs.Histories.{entries_from, closes_of}
use Rattle.day_text.proofs.Readings.{day_once}

pub form_says : FormSaysItsValues → DayFormSaysItsValues
form_says says places bytes v w some few one two = day_once says places some few bytes v w one two

pub values_are_read : FormSaysItsValues → WrittenDaysAreRead
values_are_read says places bytes v (Ok w) some few is read = form_says says places bytes w v some few read is
values_are_read says places bytes v (Err Malformed) some few is read = absurd (read v is)
values_are_read says places bytes v (Err NoMemory) some few is read = refl

-- ---- no day is a sheet

-- the text of a sheet begins with a t
sheet_first : (places : ℕ) (v : SheetList) → get_or (text_of_lines (lines_of places v)) 0 0 ≡ 116
unfolding text_of_lines
sheet_first places v = refl

-- 49 is the digit 1
one_digit : decimal 1 ≡ 49 ∷ []
unfolding digits
one_digit = refl

-- that of a history begins with a 1
day_first :
    (history : List Entry) (rest : List ℕ) → EndsWithTheClerk history
    → get_or (entries_text history ++ rest) 0 0 ≡ 49
day_first [] rest ends = absurd (closes_of [] ends)
day_first (e ∷ history) rest ends =
    ap (λ (l : List ℕ). get_or (((l ++ 10 ∷ []) ++ entries_from (1 + 1) history) ++ rest) 0 0)
    (line_is 1 e ∙ ap (λ (d : List ℕ). d ++ 32 ∷ behind_number e) one_digit)

pub no_sheet : NoDayIsASheet
no_sheet one other bytes v sheet day form =
    let first : 49 ≡ 116 =
    sym (day_first v.history (sheets_text one v.sheets) day.ends)
    ∙ (ap (λ (t : List ℕ). get_or t 0 0) (sym day.text ∙ form.text) ∙ sheet_first other sheet) in
    omega (arith, first)
