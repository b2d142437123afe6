-- The true text of a day is cut off from the file of that day: after each line `end` but its last the next sheet begins,
-- and no day file begins so.
use Rattle.std.proofs.Common.{◌≡◌, ℕ, ◌+◌, Bool, true, false, cond, List, [], ◌∷◌, ◌++◌, All, map, filter}
use Rattle.std.proofs.Common.{codes, decimal, refl, sym, ap, subst, ◌∙◌, append_assoc, take_at, drop_at}
use Rattle.std.specs.List.{enumerate_from}
use Rattle.std.proofs.lemmas.List.Elements.{All-nil, All-cons, All-head, All-tail}
use Rattle.batch_core.specs.declared.entry.Entry.{Entry}
use Rattle.day_reader.specs.Call.{is_freeze}
use Rattle.sheet_text.specs.Lines.{ended, text_of_lines}
use Rattle.sheet_reader.specs.Values.{lines_of}
use Rattle.day_lines.specs.EntryText.{entry_line, entry_lines}
use Rattle.day_lines.specs.DayHistory.{clerk_freeze}
use Rattle.day_lines.specs.DayText.{freeze_places, sheet_line}
use Rattle.day_lines.specs.Owed.{OwesDay}
use Rattle.day_text.specs.Form.{HasDayForm, IsPrintableSheet, sheet_places}
use Rattle.day_text.specs.Owed.{OwedTextsHaveTheForm}
use Rattle.day_text.specs.SheetParts.{IsInner}
use Rattle.day_text.specs.Values.{DayTextList, FrozenSheet, sheet_text, sheets_text}
use Rattle.day_text.proofs.Cuts.{without_none}
use Rattle.day_text.proofs.EntryLines.{behind_number, line_is}
use Rattle.day_text.proofs.Feedless.{entry_none, numbered}
use Rattle.day_text.proofs.SheetLines.{front_of, front_inner}
use Rattle.day_audit.specs.Input.{GoesOn, IsDaySplit}
use Rattle.day_audit.specs.Laws.{DaysAreSplit}
use Rattle.day_audit.proofs.FileStarts.{no_sheet}
use Rattle.day_audit.proofs.FirstEnds.{IsOverFirst, last_line, one_line_more, lines_more}
use Rattle.day_audit.proofs.SheetSplits.{sheet_is}

-- ---- the lines of calls

call_inner : (n : ℕ) (e : Entry) → IsInner (entry_line n e)
call_inner n e = record {
  whole = entry_none n e;
  other = λ same. without_none 32 (decimal n) (behind_number e) (codes "end") refl (sym same ∙ line_is n e);
}

calls_inner :
    (n : ℕ) (history : List Entry)
    → All IsInner (map (λ (e : ℕ × Entry). entry_line e.0 e.1) (enumerate_from n history))
calls_inner n [] = All-nil IsInner
calls_inner n (e ∷ history) =
    All-cons IsInner (entry_line n e) (map (λ (e : ℕ × Entry). entry_line e.0 e.1) (enumerate_from (n + 1) history))
    (call_inner n e) (calls_inner (n + 1) history)

-- ---- sheets

-- no further sheet begins
abbrev NoSheet : List ℕ → Type 0
NoSheet rest = ¬ GoesOn rest

-- the lines of a sheet but the last, and then what is from there on
front_more :
    (places : ℕ) (s : FrozenSheet) (text file : List ℕ) → IsPrintableSheet places s → IsOverFirst NoSheet text file
    → IsOverFirst NoSheet (text_of_lines (front_of places s.values) ++ text) file
unfolding text_of_lines
front_more places s text file printable first =
    lines_more NoSheet (front_of places s.values) text file (front_inner places s.values printable) first

-- the line that names a sheet's freeze, and the sheet's lines
named :
    (places : ℕ) (s : FrozenSheet) (text file : List ℕ) → IsPrintableSheet places s
    → IsOverFirst NoSheet (ended (codes "end") ++ text) file → IsOverFirst NoSheet (sheet_text places s ++ text) file
named places s text file printable first =
    let line : List ℕ = sheet_line s.freeze in
    let body : List ℕ = text_of_lines (lines_of places s.values) in
    let front : List ℕ = text_of_lines (front_of places s.values) in
    let whole : body ++ text ≡ front ++ (ended (codes "end") ++ text) =
    ap (λ (t : List ℕ). t ++ text) (sheet_is places s.values) ∙ append_assoc front (ended (codes "end")) text in
    subst (λ (t : List ℕ). IsOverFirst NoSheet t file)
    (ap (λ (t : List ℕ). ended line ++ t) (sym whole) ∙ sym (append_assoc (ended line) body text))
    (one_line_more NoSheet line (front ++ (ended (codes "end") ++ text)) file (numbered (codes "sheet ") s.freeze refl)
    (λ same. absurd (without_none 32 (codes "sheet") (decimal s.freeze) (codes "end") refl (sym same)))
    (front_more places s (ended (codes "end") ++ text) file printable first))

-- the sheets of a text, of which there is one
sheets_first :
    (places : ℕ) (s : FrozenSheet) (sheets : List FrozenSheet) (file : List ℕ) → All (IsPrintableSheet places) (s ∷ sheets)
    → NoSheet file → IsOverFirst NoSheet (sheets_text places (s ∷ sheets)) file
sheets_first places s [] file printable may =
    named places s [] file (All-head (IsPrintableSheet places) s [] printable)
    (last_line NoSheet file may)
sheets_first places s (t ∷ sheets) file printable may =
    let more : List ℕ = sheets_text places (t ∷ sheets) in
    named places s more file (All-head (IsPrintableSheet places) s (t ∷ sheets) printable)
    (one_line_more NoSheet (codes "end") more file refl (λ is none. none refl)
    (sheets_first places t sheets file (All-tail (IsPrintableSheet places) s (t ∷ sheets) printable) may))

-- ---- the text

not_none : {A : Type 0} (x : A) (xs : List A) → x ∷ xs ≡ [] → ⊥
not_none x xs is = cc

-- the calls with their numbers that are freezes
abbrev freezes_from : ℕ → List Entry → List (ℕ × Entry)
freezes_from n history = filter (λ (e : ℕ × Entry). is_freeze e.1.call) (enumerate_from n history)

-- the clerk's is one of them
some_freeze :
    (n : ℕ) (before : List Entry)
    → map (λ (e : ℕ × Entry). e.0) (freezes_from n (before ++ clerk_freeze ∷ [])) ≡ [] → ⊥
some_freeze n [] is = not_none n [] is
some_freeze n (e ∷ before) is =
    by (is_freeze e.call) (freezes_from (n + 1) (before ++ clerk_freeze ∷ [])) (some_freeze (n + 1) before) is
  where
    by :
        (t : Bool) (rest : List (ℕ × Entry)) → (map (λ (e : ℕ × Entry). e.0) rest ≡ [] → ⊥)
        → map (λ (e : ℕ × Entry). e.0) (cond t ((n, e) ∷ rest) rest) ≡ [] → ⊥
    by true rest later none = not_none n (map (λ (e : ℕ × Entry). e.0) rest) none
    by false rest later none = later none

-- so there is a sheet
text_first :
    (places : ℕ) (text file : List ℕ) (v : DayTextList) → HasDayForm places text v → NoSheet file
    → IsOverFirst NoSheet text file
text_first places text file v form may =
    subst (λ (t : List ℕ). IsOverFirst NoSheet t file) (sym form.text)
    (lines_more NoSheet (entry_lines v.history) (sheets_text places v.sheets) file (calls_inner 1 v.history)
    (by v.sheets form.freezes form.sheets))
  where
    by :
        (sheets : List FrozenSheet) → sheet_places sheets ≡ freeze_places v.history → All (IsPrintableSheet places) sheets
        → IsOverFirst NoSheet (sheets_text places sheets) file
    by [] none printable =
        absurd (some_freeze 1 form.ends.before
        (ap freeze_places (sym form.ends.last) ∙ sym none))
    by (s ∷ sheets) freezes printable = sheets_first places s sheets file printable may

split_first : (text file : List ℕ) → IsOverFirst NoSheet text file → IsDaySplit (text ++ file) text file
split_first text file first = record {
  at = first.at;
  ends = record { stands = first.over.stands; last = first.over.follows };
  none_before = λ k below is. first.none_before k below (record { stands = is.stands; follows = is.last });
  text_is = sym (take_at text file (first.at + 4) (sym first.long));
  file_is = sym (drop_at text file (first.at + 4) (sym first.long));
}

pub days_split : OwedTextsHaveTheForm → DaysAreSplit
days_split form day text file (history, whole, is) file_is =
    let owed : OwesDay file history text = record { day = day; says = file_is.says; calls = whole; text = is } in
    let own = form file history text owed in
    split_first text file (text_first day.places text file own.0 own.1 (no_sheet file day file_is.says))
