-- What is owed for a day, and for a sheet where there is no day.
use Rattle.std.proofs.Common.{◌≡◌, ◌⊎◌, ℕ, ◌+◌, ◌≤◌, List, length, refl, subst, sym}
use Rattle.std.proofs.Common.{inl, inr, arith}
use Rattle.std.proofs.lemmas.Bool.{cases_lt}
use Rattle.sheet_input.specs.declared.sheet_fault.SheetFault.{SheetFault}
use Rattle.sheet_input.specs.declared.sheet_fault.SheetFault.TheVariants.{Malformed, TooLong}
use Rattle.sheet_input.specs.declared.sheet_limit.TheConstants.{SHEET_LIMIT}
use Rattle.tool_edge.specs.declared.end.End.{End}
use Rattle.tool_edge.specs.declared.end.End.TheVariants.{Done, SourceFault, BadWords, BadInput, SinkFault}
use Rattle.tool_edge.specs.declared.end.End.TheVariants.{NoMemory}
use Rattle.tool_edge.specs.Streams.{Writing}
use Rattle.tool_edge.specs.Finishing.{FinishesOwed}
use Rattle.tool_edge.specs.Tool.{IsOwedFor, IsSound, no_history}
use Rattle.day_text.specs.Form.{HasDayForm}
use Rattle.day_text.specs.OwnPlaces.{IsDayForm}
use Rattle.day_text.specs.Values.{DayTextList}
use Rattle.sheet_page.specs.declared.format.Format.{Format}
use Rattle.sheet_page.specs.Inputs.{IsSheetText}
use Rattle.sheet_page.specs.Owed.{OwesShown, shows}
use Rattle.sheet_page.proofs.Owing.{sound as sound_sheets}
use Rattle.day_page.specs.Inputs.{HasNoneAbove, IsDay, IsDayAt}
use Rattle.day_page.specs.Owed.{IsRefusedPage, OwesDay, day_as, pages}

-- ---- the places of an input

pub none_above_nine : (input : List ℕ) → HasNoneAbove 9 input
none_above_nine input other above few form = omega (arith, above, few)

pub none_above_less :
    (input : List ℕ) (n : ℕ) → HasNoneAbove (n + 1) input
    → ((v : DayTextList) → ¬ (HasDayForm (n + 1) input v)) → HasNoneAbove n input
none_above_less input n above not other more few form =
    elim (cases_lt (n + 1) other) [
      | inl lt ↦ above other lt few form
      | inr le ↦
          let same : other ≡ n + 1 = omega (arith, more, le) in
          let here = subst (λ (k : ℕ). IsDayForm k input) same form in
          not here.0 here.1
    ]

pub own_at :
    (input : List ℕ) (n : ℕ) (v : DayTextList) → 6 ≤ n → n ≤ 9 → HasDayForm n input v → HasNoneAbove n input
    → IsDayAt input n v
own_at input n v from few form above = record {
  own = record { from = from; to = few; form = (v, form); greatest = above };
  form = form;
}

pub no_day : (input : List ℕ) → HasNoneAbove 5 input → IsDay input → ⊥
no_day input none day =
    let own = day.2.own in
    none day.0 (omega (arith, own.from)) own.to own.form

-- ---- a day

pub day_owed :
    (places : ℕ) (format : Format) (input : List ℕ) (v : DayTextList) (end : End SheetFault) (sink : Writing)
    → length input ≤ SHEET_LIMIT → IsDayAt input places v
    → FinishesOwed (λ due bytes. (due ≡ Done) × (bytes ≡ day_as places format v)) end sink
    → FinishesOwed (IsOwedFor pages format input no_history) end sink
day_owed places format input v end sink short at (inl nothing) = inl nothing
day_owed places format input v end sink short at (inr (due, bytes, (done, text), finishes)) =
    inr (
      due,
      bytes,
      subst (λ (e : End SheetFault). IsOwedFor pages format input no_history e bytes) (sym done)
          (short, inr (places, v, at, text)),
      finishes,
    )

-- ---- no day

sheet_due :
    (format : Format) (input bytes : List ℕ) (due : End SheetFault) → ¬ (IsDay input)
    → IsOwedFor shows format input no_history due bytes → IsOwedFor pages format input no_history due bytes
sheet_due format input bytes Done none owed = (owed.0, inl owed.1)
sheet_due format input bytes (BadInput (TooLong most)) none (inl long, same, line) = (inl long, same, line)
sheet_due format input bytes (BadInput Malformed) none (inl long, same, line) = (inl long, same, line)
sheet_due format input bytes (BadInput (TooLong most)) none (inr refused, same, line) = absurd refused.1
sheet_due format input bytes (BadInput Malformed) none (inr refused, same, line) =
    (inr (refused.0, (refused.1, none)), same, line)
sheet_due format input bytes SourceFault none owed = owed
sheet_due format input bytes BadWords none owed = owed
sheet_due format input bytes SinkFault none owed = owed
sheet_due format input bytes NoMemory none owed = owed

pub sheet_owed :
    (format : Format) (input : List ℕ) (end : End SheetFault) (sink : Writing) → ¬ (IsDay input)
    → FinishesOwed (IsOwedFor shows format input no_history) end sink
    → FinishesOwed (IsOwedFor pages format input no_history) end sink
sheet_owed format input end sink none (inl nothing) = inl nothing
sheet_owed format input end sink none (inr (due, bytes, owed, finishes)) =
    inr (due, bytes, sheet_due format input bytes due none owed, finishes)

-- ---- the whole run

accepted_not_refused :
    (format : Format) (input : List ℕ) (fault : SheetFault) → IsSheetText input ⊎ IsDay input
    → IsRefusedPage input fault → ⊥
accepted_not_refused format input (TooLong most) accepted refused = refused
accepted_not_refused format input Malformed (inl sheet) refused =
    refused.0 sheet.0 sheet.1 sheet.2.from sheet.2.to sheet.2.form
accepted_not_refused format input Malformed (inr day) refused = refused.1 day

refused_once :
    (format : Format) (input : List ℕ) (fault other : SheetFault) → IsRefusedPage input fault
    → IsRefusedPage input other → fault ≡ other
refused_once format input (TooLong most) other refused again = absurd refused
refused_once format input Malformed (TooLong most) refused again = absurd again
refused_once format input Malformed Malformed refused again = refl

owed_is_accepted :
    (format : Format) (input : List ℕ) (bytes : List ℕ)
    → OwesShown format input bytes ⊎ OwesDay format input bytes
    → IsSheetText input ⊎ IsDay input
owed_is_accepted format input bytes (inl owes) = inl (owes.0, owes.1, owes.2)
owed_is_accepted format input bytes (inr owes) = inr (owes.0, owes.1, owes.2)

pub sound : IsSound pages
sound = record {
  one = sound_sheets.one;
  either = accepted_not_refused;
  once = refused_once;
  owed = λ format input history bytes owes. owed_is_accepted format input bytes owes;
}
