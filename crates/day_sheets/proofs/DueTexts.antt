-- How sheets that are due are written.
use Rattle.std.proofs.Common.{◌≡◌, ℕ, List, [], ◌∷◌, ◌++◌, Option, Result, Ok, IsErr, refl, sym, subst}
use Rattle.std.specs.Prelude.{All}
use Rattle.std.proofs.lemmas.List.{append-nil, append_assoc}
use Rattle.std.proofs.lemmas.List.Elements.{All-nil, All-head, All-tail, All-cons}
use Rattle.sheet_text.specs.Lines.{ended}
use Rattle.piece_text.specs.Writing.{Wrote as WroteBytes, Stopped as StoppedBytes, Writes as WritesBytes}
use Rattle.piece_text.proofs.Written.{wrote_nothing, wrote_later, stopped_later, stops, later}
use Rattle.lane_sheet.specs.Due.{CountDue, HasSheet, IsSheetDue, WritesSome}
use Rattle.day_lines.specs.DayText.{sheet_line}
use Rattle.day_sheets.specs.DueSheets.{SheetDue, sheets_at, IsDueText, AreDueTexts}

-- the sheet of a freeze exists
abbrev pub HasOwn : (places : ℕ) → SheetDue → Type 0
HasOwn places sheet = HasSheet places sheet.due

-- the writing stopped in the line of the freeze
pub stopped_in_line :
    {S T E : Type 0} (w : S → Option (List ℕ)) (f : S → ℕ) (a b : S) (places at : ℕ) (due : CountDue) (r : Result T E)
    → IsErr r → HasSheet places due → StoppedBytes w f a b (ended (sheet_line at))
    → WritesSome (IsDueText places (record { at = at; due = due })) w f a b r
stopped_in_line w f a b places at due r failed sheet stopped =
    (ended (sheet_line at) ++ sheet.0, (sheet.0, sheet.1, refl), stops sheet.0 r failed stopped)

-- after the line the sheet was written, or a front of it
pub wrote_sheet :
    {S T E : Type 0} (w : S → Option (List ℕ)) (f : S → ℕ) (a b c : S) (places at : ℕ) (due : CountDue) (r : Result T E)
    → WroteBytes w f a b (ended (sheet_line at)) → WritesSome (IsSheetDue places due) w f b c r
    → WritesSome (IsDueText places (record { at = at; due = due })) w f a c r
wrote_sheet w f a b c places at due r did (sheet, is, wrote) =
    (ended (sheet_line at) ++ sheet, (sheet, is, refl), later c sheet r did wrote)

-- ---- one sheet after another

-- what of the sheets was written, and what they are with the text of those that are left
pub record IsWriting {S : Type 0} (w : S → Option (List ℕ)) (f : S → ℕ) (a b : S) (places : ℕ)
    (all left : List SheetDue) : Type 0 where
  pub text : List ℕ
  pub wrote : WroteBytes w f a b text
  pub onward : (more : List ℕ) → AreDueTexts places left more → AreDueTexts places all (text ++ more)
  pub sheets : All (HasOwn places) left

pub writing_none :
    {S : Type 0} (w : S → Option (List ℕ)) (f : S → ℕ) (a : S) (places : ℕ) (all left : List SheetDue) → left ≡ all
    → All (HasOwn places) all → IsWriting w f a a places all left
writing_none w f a places all left is sheets = record {
  text = [];
  wrote = wrote_nothing w f a;
  onward = λ more texts. subst (λ (l : List SheetDue). AreDueTexts places l more) is texts;
  sheets = subst (All (HasOwn places)) (sym is) sheets;
}

pub writing_more :
    {S : Type 0} {w : S → Option (List ℕ)} {f : S → ℕ} {a b c : S} (places : ℕ) (all left rest : List SheetDue)
    (due : SheetDue) → IsWriting w f a b places all left → left ≡ due ∷ rest
    → (text : List ℕ) × IsDueText places due text × WroteBytes w f b c text → IsWriting w f a c places all rest
writing_more places all left rest due so_far is (text, of, wrote) =
    let sheets = subst (All (HasOwn places)) is so_far.sheets in
    record {
      text = so_far.text ++ text;
      wrote = wrote_later so_far.wrote wrote;
      onward = λ more texts.
          subst (AreDueTexts places all) (sym (append_assoc so_far.text text more))
          (so_far.onward (text ++ more)
          (subst (λ (l : List SheetDue). AreDueTexts places l (text ++ more)) (sym is) (text, more, of, texts, refl)));
      sheets = All-tail (HasOwn places) due rest sheets;
    }

-- sheets that are left have texts
pub texts_of :
    (places : ℕ) (dues : List SheetDue) → All (HasOwn places) dues
    → (text : List ℕ) × AreDueTexts places dues text
texts_of places [] sheets = ([], refl)
texts_of places (due ∷ dues) sheets =
    let sheet = All-head (HasOwn places) due dues sheets in
    let first = ended (sheet_line due.at) ++ sheet.0 in
    let others = texts_of places dues (All-tail (HasOwn places) due dues sheets) in
    (first ++ others.0, (first, others.0, (sheet.0, sheet.1, refl), others.1, refl))

pub writing_stopped :
    {S T E : Type 0} {w : S → Option (List ℕ)} {f : S → ℕ} {a b c : S} (places : ℕ) (all left rest : List SheetDue)
    (due : SheetDue) (r : Result T E) → IsErr r → IsWriting w f a b places all left → left ≡ due ∷ rest
    → (text : List ℕ) × IsDueText places due text × StoppedBytes w f b c text
    → (text : List ℕ) × AreDueTexts places all text × WritesBytes w f a c text r
writing_stopped {w} {f} {a} {c} places all left rest due r failed so_far is (text, of, stopped) =
    let others =
    texts_of places rest
    (All-tail (HasOwn places) due rest (subst (All (HasOwn places)) is so_far.sheets)) in
    let whole =
    so_far.onward (text ++ others.0) (subst
    (λ (l : List SheetDue). AreDueTexts places l (text ++ others.0)) (sym is)
    (text, others.0, of, others.1, refl)) in (
      so_far.text ++ (text ++ others.0),
      whole,
      subst (λ (bytes : List ℕ). WritesBytes w f a c bytes r) (append_assoc so_far.text text others.0)
          (stops others.0 r failed (stopped_later so_far.wrote stopped)),
    )

pub writing_all :
    {S : Type 0} {w : S → Option (List ℕ)} {f : S → ℕ} {a b : S} (places : ℕ) (all left : List SheetDue)
    → IsWriting w f a b places all left → left ≡ []
    → (text : List ℕ) × AreDueTexts places all text × WroteBytes w f a b text
writing_all {w} {f} {a} {b} places all left so_far is = (
  so_far.text,
  subst (AreDueTexts places all) (append-nil so_far.text)
      (so_far.onward [] (subst (λ (l : List SheetDue). AreDueTexts places l []) (sym is) refl)),
  so_far.wrote,
)

-- ---- sheets at their places

pub sheets_have :
    (places : ℕ) (freezes : List ℕ) (dues : List CountDue) → All (HasSheet places) dues
    → All (HasOwn places) (sheets_at freezes dues)
sheets_have places [] dues have = All-nil (HasOwn places)
sheets_have places (at ∷ freezes) [] have = All-nil (HasOwn places)
sheets_have places (at ∷ freezes) (due ∷ dues) have =
    All-cons (HasOwn places) _ _ (All-head (HasSheet places) due dues have)
    (sheets_have places freezes dues (All-tail (HasSheet places) due dues have))

pub no_counts : (freezes : List ℕ) → sheets_at freezes [] ≡ []
no_counts [] = refl
no_counts (at ∷ freezes) = refl

-- nothing is written yet, and all sheets are left
pub writing_begins :
    {S : Type 0} (w : S → Option (List ℕ)) (f : S → ℕ) (a : S) (places : ℕ) (freezes freezes' : List ℕ)
    (dues dues' : List CountDue) → freezes' ≡ freezes → dues' ≡ dues → All (HasSheet places) dues
    → IsWriting w f a a places (sheets_at freezes dues) (sheets_at freezes' dues')
writing_begins w f a places freezes freezes' dues dues' of_freezes of_dues have =
    writing_none w f a places (sheets_at freezes dues) (sheets_at freezes' dues')
    (λ i. sheets_at (of_freezes i) (of_dues i)) (sheets_have places freezes dues have)
