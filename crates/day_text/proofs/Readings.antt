-- A text with the form of the text of a day is read in one way.
use Rattle.std.proofs.Common.{◌≡◌, ◌≢◌, ℕ, ◌+◌, ◌<◌, ◌≤◌, List, [], ◌∷◌, ◌++◌, length, take, drop, get_or}
use Rattle.std.proofs.Common.{refl, sym, ap, ◌∙◌, append_assoc}
use Rattle.std.proofs.lemmas.Grind.{take_at_read}
use Rattle.std.proofs.lemmas.List.{append-nil, take-append-drop}
use Rattle.batch_core.specs.declared.entry.Entry.{Entry}
use Rattle.sheet_reader.specs.Laws.{FormSaysItsValues}
use Rattle.day_lines.specs.DayText.{freeze_places}
use Rattle.day_text.specs.declared.day_stop.DayStop.{DayStop}
use Rattle.day_text.specs.declared.day_stop.DayStop.TheVariants.{Malformed, NoMemory}
use Rattle.day_text.specs.Form.{HasDayForm}
use Rattle.day_text.specs.Parts.{BeginsWithCalls}
use Rattle.day_text.specs.SheetParts.{BeginsWithSheets}
use Rattle.day_text.specs.Refusal.{Stops}
use Rattle.day_text.specs.Values.{FrozenSheet, DayTextList, sheets_text}
use Rattle.day_text.proofs.Histories.{calls_once}
use Rattle.day_text.proofs.SheetTexts.{sheets_once}

pub stop_later : {P Q : Type 0} (stop : DayStop) → (P → Q) → Stops stop P → Stops stop Q
stop_later Malformed f p = f p
stop_later NoMemory f p = tt

-- a list around a place
pub split_at : (xs : List ℕ) (at : ℕ) → at < length xs → xs ≡ take at xs ++ get_or xs at 0 ∷ drop (at + 1) xs
split_at xs at below =
    sym (take-append-drop (at + 1) xs)
    ∙ (ap (λ (l : List ℕ). l ++ drop (at + 1) xs) (take_at_read xs at 0 below).1
    ∙ append_assoc (take at xs) (get_or xs at 0 ∷ []) (drop (at + 1) xs))

-- ---- the parts of a text

-- it begins with its calls
pub its_calls :
    (places : ℕ) (bytes : List ℕ) (v : DayTextList) → HasDayForm places bytes v
    → BeginsWithCalls bytes v.history (sheets_text places v.sheets)
its_calls places bytes v is = record { calls = is.calls; ends = is.ends; text_is = is.text }

-- and what is after them are its sheets
pub its_sheets :
    (places : ℕ) (bytes behind : List ℕ) (history : List Entry) (freezes : List ℕ) (v : DayTextList)
    → BeginsWithCalls bytes history behind → freezes ≡ freeze_places history → HasDayForm places bytes v
    → BeginsWithSheets places freezes behind v.sheets []
its_sheets places bytes behind history freezes v begins are is =
    let same =
    calls_once bytes history v.history behind (sheets_text places v.sheets) begins
    (its_calls places bytes v is) in
    record {
      freezes_are = is.freezes ∙ (ap freeze_places (sym same.0) ∙ sym are);
      printable = is.sheets;
      text_is = same.1 ∙ sym (append-nil (sheets_text places v.sheets));
    }

pub no_calls :
    (places : ℕ) (bytes : List ℕ) → ((history : List Entry) (rest : List ℕ) → ¬ (BeginsWithCalls bytes history rest))
    → (v : DayTextList) → ¬ (HasDayForm places bytes v)
no_calls places bytes none v is = none v.history (sheets_text places v.sheets) (its_calls places bytes v is)

pub no_day_sheets :
    (places : ℕ) (bytes behind : List ℕ) (history : List Entry) (freezes : List ℕ) → BeginsWithCalls bytes history behind
    → freezes ≡ freeze_places history
    → ((sheets : List FrozenSheet) (rest : List ℕ) → ¬ (BeginsWithSheets places freezes behind sheets rest))
    → (v : DayTextList) → ¬ (HasDayForm places bytes v)
no_day_sheets places bytes behind history freezes begins are none v is =
    none v.sheets [] (its_sheets places bytes behind history freezes v begins are is)

module _ (says : FormSaysItsValues) (places : ℕ) (some : 6 ≤ places) (few : places ≤ 9) where
  pub more_behind :
      (bytes behind : List ℕ) (history : List Entry) (freezes : List ℕ) (sheets : List FrozenSheet) (rest : List ℕ)
      → BeginsWithCalls bytes history behind → freezes ≡ freeze_places history
      → BeginsWithSheets places freezes behind sheets rest → rest ≢ [] → (v : DayTextList) → ¬ (HasDayForm places bytes v)
  more_behind bytes behind history freezes sheets rest begins are read more v is =
      more (sheets_once says places some few freezes behind sheets v.sheets rest [] read
      (its_sheets places bytes behind history freezes v begins are is)).1

  pub day_once :
      (bytes : List ℕ) (v w : DayTextList) → HasDayForm places bytes v → HasDayForm places bytes w → v ≡ w
  day_once bytes v w one two =
      let behind : List ℕ = sheets_text places v.sheets in
      let begins = its_calls places bytes v one in
      let calls =
      calls_once bytes v.history w.history behind (sheets_text places w.sheets) begins
      (its_calls places bytes w two) in
      let sheets =
      sheets_once says places some few (freeze_places v.history) behind v.sheets w.sheets [] []
      (its_sheets places bytes behind v.history (freeze_places v.history) v begins refl one)
      (its_sheets places bytes behind v.history (freeze_places v.history) w begins refl two) in
      λ i. record { history = calls.0 i; sheets = sheets.0 i }
