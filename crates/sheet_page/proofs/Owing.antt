-- What is owed for a sheet, and what is refused.
use Rattle.std.proofs.Common.{◌≡◌, ◌∙◌, ℕ, ◌+◌, ◌≤◌, List, [], ◌∷◌, length, refl, sym, subst, inl, inr, arith}
use Rattle.std.specs.Prelude.{Option, Result, Ok, Err, codes}
use Rattle.std.proofs.lemmas.Bool.{cases_lt}
use Rattle.piece_text.specs.Writing.{Writes}
use Rattle.meek_words.specs.Numerals.{Word}
use Rattle.sheet_reader.specs.Form.{HasForm}
use Rattle.sheet_reader.specs.Values.{SheetList}
use Rattle.tool_edge.specs.declared.end.End.{End}
use Rattle.tool_edge.specs.declared.end.End.TheVariants.{Done}
use Rattle.tool_edge.specs.Streams.{Writing, writing}
use Rattle.tool_edge.specs.Finishing.{Finishes, FinishesOwed, Wrote}
use Rattle.tool_edge.specs.Tool.{IsOwedFor, IsSound, no_history}
use Rattle.sheet_input.specs.declared.sheet_limit.TheConstants.{SHEET_LIMIT}
use Rattle.sheet_page.specs.declared.format.Format.{Format}
use Rattle.sheet_page.specs.declared.format.Format.TheVariants.{Html, Csv, MarkedCsv, Json, Text}
use Rattle.sheet_input.specs.declared.sheet_fault.SheetFault.{SheetFault}
use Rattle.sheet_input.specs.declared.sheet_fault.SheetFault.TheVariants.{TooLong, Malformed}
use Rattle.sheet_page.specs.Inputs.{HasNoneAbove, IsSheetAt, IsSheetText, IsRefusedSheet}
use Rattle.sheet_page.specs.Words.{TakesFormat, mark_first, words_of}
use Rattle.sheet_page.specs.Owed.{shown_as, shows}

-- what was written, as a tool's end takes it
pub wrote_text :
    {S T E : Type 0} (w : S → Option (List ℕ)) (f : S → ℕ) (a b : S) (text : List ℕ) (r : Result T E) → Writes w f a b text r
    → Wrote text r (writing w f a b)
wrote_text w f a b text (Ok done) wrote = (wrote.calm, wrote.whole)
wrote_text w f a b text (Err stop) wrote = (wrote.rose, wrote.part)

-- ---- the whole input

pub values_owed :
    (places : ℕ) (format : Format) (input : List ℕ) (v : SheetList) (end : End SheetFault) (sink : Writing) → length input ≤ SHEET_LIMIT
    → IsSheetAt input places v → Finishes Done (shown_as places format v) end sink
    → FinishesOwed (IsOwedFor shows format input no_history) end sink
values_owed places format input v end sink short at finishes =
    inr (Done, shown_as places format v, (short, (places, v, at, refl)), finishes)

-- ---- the places of an input

pub none_above_nine : (input : List ℕ) → HasNoneAbove 9 input
none_above_nine input other w above few form = omega (arith, above, few)

pub none_above_less :
    (input : List ℕ) (n : ℕ) → HasNoneAbove (n + 1) input → ((w : SheetList) → ¬ HasForm (n + 1) input w) → HasNoneAbove n input
none_above_less input n above not other w more few form =
    elim (cases_lt (n + 1) other) [
      | inl lt ↦ above other w lt few form
      | inr le ↦
          let same : other ≡ n + 1 = omega (arith, more, le) in
          not w (subst (λ (k : ℕ). HasForm k input w) same form)
    ]

pub own_at :
    (input : List ℕ) (n : ℕ) (v : SheetList) → 6 ≤ n → n ≤ 9 → HasForm n input v → HasNoneAbove n input → IsSheetAt input n v
own_at input n v from few form above = record { from = from; to = few; form = form; greatest = above }

not_refused : (input : List ℕ) (fault : SheetFault) → IsSheetText input → IsRefusedSheet input fault → ⊥
not_refused input (TooLong most) sheet refused = refused
not_refused input Malformed sheet refused = refused sheet.0 sheet.1 sheet.2.from sheet.2.to sheet.2.form

refused_once :
    (input : List ℕ) (fault other : SheetFault) → IsRefusedSheet input fault → IsRefusedSheet input other
    → fault ≡ other
refused_once input (TooLong most) other refused again = absurd refused
refused_once input Malformed (TooLong most) refused again = absurd again
refused_once input Malformed Malformed refused again = refl

-- ---- the whole run

first_byte : (a b : ℕ) (front other : List ℕ) → a ∷ front ≡ b ∷ other → a ≡ b
first_byte a b front other same = cc

html_not_json : codes "html" ≡ codes "json" → ⊥
html_not_json same =
    let first : 104 ≡ 106 = first_byte 104 106 (codes "tml") (codes "son") same in
    omega (arith, first)

html_not_text : codes "html" ≡ codes "text" → ⊥
html_not_text same =
    let first : 104 ≡ 116 = first_byte 104 116 (codes "tml") (codes "ext") same in
    omega (arith, first)

csv_not_text : codes "csv" ≡ codes "text" → ⊥
csv_not_text same =
    let first : 99 ≡ 116 = first_byte 99 116 (codes "sv") (codes "ext") same in
    omega (arith, first)

json_not_text : codes "json" ≡ codes "text" → ⊥
json_not_text same =
    let first : 106 ≡ 116 = first_byte 106 116 (codes "son") (codes "ext") same in
    omega (arith, first)

-- names of formats that are after `--as`, and nothing after them
unlike : (a b : Word) → (a ≡ b → ⊥) → codes "--as" ∷ a ∷ [] ≡ codes "--as" ∷ b ∷ [] → ⊥
unlike a b apart same = apart (second a b same)
  where
    second : (a b : Word) → codes "--as" ∷ a ∷ [] ≡ codes "--as" ∷ b ∷ [] → a ≡ b
    second a b same = cc

same_format : (one other : Format) → words_of one ≡ words_of other → one ≡ other
same_format Html Html same = refl
same_format Html Csv same = cc
same_format Html MarkedCsv same = cc
same_format Html Json same = absurd (unlike (codes "html") (codes "json") html_not_json same)
same_format Html Text same = absurd (unlike (codes "html") (codes "text") html_not_text same)
same_format Csv Html same = cc
same_format Csv Csv same = refl
same_format Csv MarkedCsv same = cc
same_format Csv Json same = cc
same_format Csv Text same = absurd (unlike (codes "csv") (codes "text") csv_not_text same)
same_format MarkedCsv Html same = cc
same_format MarkedCsv Csv same = cc
same_format MarkedCsv MarkedCsv same = refl
same_format MarkedCsv Json same = cc
same_format MarkedCsv Text same = cc
same_format Json Html same = absurd (unlike (codes "html") (codes "json") html_not_json (sym same))
same_format Json Csv same = cc
same_format Json MarkedCsv same = cc
same_format Json Json same = refl
same_format Json Text same = absurd (unlike (codes "json") (codes "text") json_not_text same)
same_format Text Html same = absurd (unlike (codes "html") (codes "text") html_not_text (sym same))
same_format Text Csv same = absurd (unlike (codes "csv") (codes "text") csv_not_text (sym same))
same_format Text MarkedCsv same = cc
same_format Text Json same = absurd (unlike (codes "json") (codes "text") json_not_text (sym same))
same_format Text Text same = refl

-- words for a format are some
not_none : (format : Format) (words : List Word) → words ≡ [] → words ≡ words_of format → ⊥
not_none Html words none some = cc
not_none Csv words none some = cc
not_none MarkedCsv words none some = cc
not_none Json words none some = cc
not_none Text words none some = cc

-- and begin with `--as`, unless the mark is first: 97 and 109 are the letters after the hyphens
third_letter : (a b : ℕ) (front other : List ℕ) (words more : List Word)
    → (45 ∷ 45 ∷ a ∷ front) ∷ words ≡ (45 ∷ 45 ∷ b ∷ other) ∷ more → a ≡ b
third_letter a b front other words more same = cc

not_first : (words : List Word) (name : Word) (behind : List Word) → words ≡ mark_first → words ≡ codes "--as" ∷ name ∷ behind → ⊥
not_first words name behind first some =
    let same : 109 ≡ 97 =
    third_letter 109 97 (codes "ark") (codes "s") (codes "--as" ∷ codes "csv" ∷ []) (name ∷ behind) (sym first ∙ some) in
    omega (arith, same)

not_mark_first : (format : Format) (words : List Word) → words ≡ mark_first → words ≡ words_of format → ⊥
not_mark_first Html words first some = not_first words _ _ first some
not_mark_first Csv words first some = not_first words _ _ first some
not_mark_first MarkedCsv words first some = not_first words _ _ first some
not_mark_first Json words first some = not_first words _ _ first some
not_mark_first Text words first some = not_first words _ _ first some

one_format : (words : List Word) (one other : Format) → TakesFormat words one → TakesFormat words other → one ≡ other
one_format words one other (inl none) (inl nothing) = none.1 ∙ sym nothing.1
one_format words one other (inl none) (inr (inl first)) = absurd (cc (none.0, first.0))
one_format words one other (inl none) (inr (inr taken)) = absurd (not_none other words none.0 taken)
one_format words one other (inr (inl first)) (inl none) = absurd (cc (none.0, first.0))
one_format words one other (inr (inl first)) (inr (inl again)) = first.1 ∙ sym again.1
one_format words one other (inr (inl first)) (inr (inr taken)) = absurd (not_mark_first other words first.0 taken)
one_format words one other (inr (inr taken)) (inl none) = absurd (not_none one words none.0 taken)
one_format words one other (inr (inr taken)) (inr (inl first)) = absurd (not_mark_first one words first.0 taken)
one_format words one other (inr (inr taken)) (inr (inr again)) = same_format one other (sym taken ∙ again)

pub sound : IsSound shows
sound = record {
  one = one_format;
  either = λ format. not_refused;
  once = λ format. refused_once;
  owed = λ format input history bytes owes. (owes.0, owes.1, owes.2);
}
