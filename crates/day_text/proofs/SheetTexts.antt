-- A text begins with the sheets of freezes in one way.
use Rattle.std.proofs.Common.{◌≡◌, ℕ, ◌≤◌, List, [], ◌∷◌, ◌++◌, All, refl, sym, ap, subst, ◌∙◌, append_assoc}
use Rattle.std.specs.Prelude.{codes, decimal}
use Rattle.std.proofs.lemmas.Grind.{flat_map-append}
use Rattle.std.proofs.lemmas.List.{append-nil}
use Rattle.std.proofs.lemmas.List.Elements.{All-nil, All-cons, All-append, All-head, All-tail}
use Rattle.sheet_text.specs.Lines.{ended, text_of_lines}
use Rattle.sheet_reader.specs.Form.{HasForm}
use Rattle.sheet_reader.specs.Laws.{FormSaysItsValues}
use Rattle.sheet_reader.specs.Values.{SheetList, lines_of}
use Rattle.day_lines.specs.DayText.{sheet_line}
use Rattle.day_text.specs.Form.{IsPrintableSheet, sheet_places}
use Rattle.day_text.specs.SheetParts.{IsSheetCut, BeginsWithSheet, BeginsWithSheets}
use Rattle.day_text.specs.Values.{FrozenSheet, sheet_text, sheets_text}
use Rattle.day_text.proofs.Cuts.{heads, behind_front}
use Rattle.day_text.proofs.SheetCuts.{sheet_once, text_push}
use Rattle.day_text.proofs.SheetLines.{front_of, lines_are, front_inner}

-- ---- the line of a sheet

pub line_read :
    (text number end rest digits : List ℕ) (n : ℕ) → text ≡ codes "sheet " ++ number → number ≡ digits ++ end
    → digits ≡ decimal n → end ≡ 10 ∷ rest → text ≡ ended (sheet_line n) ++ rest
line_read text number end rest digits n is of same ends =
    is
    ∙ ap (λ (t : List ℕ). codes "sheet " ++ t)
    (of ∙ ((λ i. same i ++ ends i) ∙ sym (append_assoc (decimal n) (10 ∷ []) rest)))

pub line_end :
    (text number end rest digits : List ℕ) (n : ℕ) → text ≡ codes "sheet " ++ number → number ≡ digits ++ end
    → digits ≡ decimal n → text ≡ ended (sheet_line n) ++ rest → end ≡ 10 ∷ rest
line_end text number end rest digits n is of same line =
    let behind : number ≡ (decimal n ++ 10 ∷ []) ++ rest =
    behind_front (codes "sheet ") number ((decimal n ++ 10 ∷ []) ++ rest) (sym is ∙ line) in
    behind_front (decimal n) end (10 ∷ rest)
    (ap (λ (t : List ℕ). t ++ end) (sym same) ∙ (sym of ∙ (behind ∙ append_assoc (decimal n) (10 ∷ []) rest)))

-- ---- a sheet

-- the text of its lines
abbrev pub body_of : (places : ℕ) → FrozenSheet → List ℕ
body_of places s = text_of_lines (lines_of places s.values)

-- what is after the line of a sheet
pub behind_line :
    (places n : ℕ) (text : List ℕ) (s : FrozenSheet) (rest : List ℕ) → BeginsWithSheet places n text s rest
    → text ≡ ended (sheet_line n) ++ (body_of places s ++ rest)
behind_line places n text s rest is =
    is.text_is
    ∙ (append_assoc (ended (sheet_line s.freeze)) (body_of places s) rest
    ∙ ap (λ (k : ℕ). ended (sheet_line k) ++ (body_of places s ++ rest)) is.freeze)

pub has_form : (places n : ℕ) (text : List ℕ) (s : FrozenSheet) (rest : List ℕ) → BeginsWithSheet places n text s rest
    → HasForm places (body_of places s) s.values
has_form places n text s rest is = record { in_range = is.printable; text = refl }

-- the sheet is cut there
pub is_cut :
    (places : ℕ) (s : FrozenSheet) (behind rest : List ℕ) → IsPrintableSheet places s → behind ≡ body_of places s ++ rest
    → IsSheetCut behind (body_of places s) rest
is_cut places s behind rest printable is = record {
  front = front_of places s.values;
  inner = front_inner places s.values printable;
  sheet_is =
      ap (λ (lines : List (List ℕ)). text_of_lines lines) (lines_are places s.values)
      ∙ text_push (front_of places s.values) (codes "end");
  text_is = is;
}

-- what was read
pub one_read :
    (places n : ℕ) (text behind sheet rest : List ℕ) (values : SheetList) → text ≡ ended (sheet_line n) ++ behind
    → IsSheetCut behind sheet rest → HasForm places sheet values
    → BeginsWithSheet places n text (record { freeze = n; values = values }) rest
one_read places n text behind sheet rest values is cut form = record {
  freeze = refl;
  printable = form.in_range;
  text_is =
      is
      ∙ (ap (λ (t : List ℕ). ended (sheet_line n) ++ t) (cut.text_is ∙ ap (λ (t : List ℕ). t ++ rest) form.text)
      ∙ sym (append_assoc (ended (sheet_line n)) (text_of_lines (lines_of places values)) rest));
}

-- the sheet that a text begins with is the one that is cut there
pub behind_is :
    (places n : ℕ) (text behind : List ℕ) (s : FrozenSheet) (rest : List ℕ) → BeginsWithSheet places n text s rest
    → text ≡ ended (sheet_line n) ++ behind → behind ≡ body_of places s ++ rest
behind_is places n text behind s rest begins is =
    behind_front (ended (sheet_line n)) behind (body_of places s ++ rest)
    (sym is ∙ behind_line places n text s rest begins)

-- no sheet can be cut
pub none_cut :
    (places n : ℕ) (text behind : List ℕ) → text ≡ ended (sheet_line n) ++ behind
    → ((sheet rest : List ℕ) → ¬ (IsSheetCut behind sheet rest))
    → (s : FrozenSheet) (rest : List ℕ) → ¬ (BeginsWithSheet places n text s rest)
none_cut places n text behind is none s rest begins =
    none (body_of places s) rest
    (is_cut places s behind rest begins.printable (behind_is places n text behind s rest begins is))

-- what is cut has no form
pub no_form :
    (places n : ℕ) (text behind sheet back : List ℕ) → text ≡ ended (sheet_line n) ++ behind → IsSheetCut behind sheet back
    → ((values : SheetList) → ¬ (HasForm places sheet values))
    → (s : FrozenSheet) (rest : List ℕ) → ¬ (BeginsWithSheet places n text s rest)
no_form places n text behind sheet back is cut none s rest begins =
    let own = is_cut places s behind rest begins.printable (behind_is places n text behind s rest begins is) in
    none s.values
    (subst (λ (t : List ℕ). HasForm places t s.values) (sym (sheet_once behind sheet back (body_of places s) rest cut own).0)
    (has_form places n text s rest begins))

-- ---- sheets

module _ (says : FormSaysItsValues) (places : ℕ) (some : 6 ≤ places) (few : places ≤ 9) where
  pub one_sheet :
      (n : ℕ) (text : List ℕ) (s t : FrozenSheet) (rest other : List ℕ) → BeginsWithSheet places n text s rest
      → BeginsWithSheet places n text t other → (s ≡ t) × (rest ≡ other)
  one_sheet n text s t rest other one two =
      let behind : List ℕ = body_of places s ++ rest in
      let own = is_cut places s behind rest one.printable refl in
      let its =
      is_cut places t behind other two.printable
      (behind_is places n text behind t other two (behind_line places n text s rest one)) in
      let same = sheet_once behind (body_of places s) rest (body_of places t) other own its in
      let values =
      says places (body_of places s) s.values t.values some few (has_form places n text s rest one)
      (subst (λ (b : List ℕ). HasForm places b t.values) (sym same.0) (has_form places n text t other two)) in
      ((λ i. record { freeze = (one.freeze ∙ sym two.freeze) i; values = values i }), same.1)

  -- the first of some sheets
  first_of :
      (s : FrozenSheet) (sheets : List FrozenSheet) (rest text : List ℕ) → IsPrintableSheet places s
      → text ≡ sheets_text places (s ∷ sheets) ++ rest
      → BeginsWithSheet places s.freeze text s (sheets_text places sheets ++ rest)
  first_of s sheets rest text printable is = record {
    freeze = refl;
    printable = printable;
    text_is = is ∙ append_assoc (sheet_text places s) (sheets_text places sheets) rest;
  }

  -- sheets of the same freezes
  pub same_sheets :
      (one two : List FrozenSheet) (rest other : List ℕ) → All (IsPrintableSheet places) one
      → All (IsPrintableSheet places) two → sheet_places one ≡ sheet_places two
      → sheets_text places one ++ rest ≡ sheets_text places two ++ other → (one ≡ two) × (rest ≡ other)
  same_sheets [] [] rest other p q freezes e = (refl, e)
  same_sheets [] (t ∷ two) rest other p q freezes e = absurd cc
  same_sheets (s ∷ one) [] rest other p q freezes e = absurd cc
  same_sheets (s ∷ one) (t ∷ two) rest other p q freezes e =
      let text : List ℕ = sheets_text places (s ∷ one) ++ rest in
      let first = heads s.freeze t.freeze (sheet_places one) (sheet_places two) freezes in
      let its = first_of t two other text (All-head (IsPrintableSheet places) t two q) e in
      let same =
      one_sheet s.freeze text s t (sheets_text places one ++ rest) (sheets_text places two ++ other)
      (first_of s one rest text (All-head (IsPrintableSheet places) s one p) refl)
      (subst (λ (n : ℕ). BeginsWithSheet places n text t (sheets_text places two ++ other)) (sym first.0) its) in
      let more =
      same_sheets one two rest other (All-tail (IsPrintableSheet places) s one p)
      (All-tail (IsPrintableSheet places) t two q) first.1 same.1 in
      ((λ i. same.0 i ∷ more.0 i), more.1)

  pub sheets_once :
      (freezes text : List ℕ) (one two : List FrozenSheet) (rest other : List ℕ)
      → BeginsWithSheets places freezes text one rest → BeginsWithSheets places freezes text two other
      → (one ≡ two) × (rest ≡ other)
  sheets_once freezes text one two rest other p q =
      same_sheets one two rest other p.printable q.printable (p.freezes_are ∙ sym q.freezes_are)
      (sym p.text_is ∙ q.text_is)

  -- the sheet that comes next after those that were read
  next_sheet :
      (done sheets : List FrozenSheet) (rest other : List ℕ) (n : ℕ) (more : List ℕ) → All (IsPrintableSheet places) done
      → All (IsPrintableSheet places) sheets → sheet_places sheets ≡ sheet_places done ++ n ∷ more
      → sheets_text places done ++ rest ≡ sheets_text places sheets ++ other
      → (s : FrozenSheet) × (back : List ℕ) × BeginsWithSheet places n rest s back
  next_sheet [] [] rest other n more p q freezes e = absurd cc
  next_sheet [] (s ∷ sheets) rest other n more p q freezes e =
      let first = heads s.freeze n (sheet_places sheets) more freezes in (
        s,
        sheets_text places sheets ++ other,
        subst (λ (k : ℕ). BeginsWithSheet places k rest s (sheets_text places sheets ++ other)) first.0
            (first_of s sheets other rest (All-head (IsPrintableSheet places) s sheets q) e),
      )
  next_sheet (d ∷ done) [] rest other n more p q freezes e = absurd cc
  next_sheet (d ∷ done) (s ∷ sheets) rest other n more p q freezes e =
      let text : List ℕ = sheets_text places (d ∷ done) ++ rest in
      let first = heads s.freeze d.freeze (sheet_places sheets) (sheet_places done ++ n ∷ more) freezes in
      let its = first_of s sheets other text (All-head (IsPrintableSheet places) s sheets q) e in
      let same =
      one_sheet d.freeze text d s (sheets_text places done ++ rest) (sheets_text places sheets ++ other)
      (first_of d done rest text (All-head (IsPrintableSheet places) d done p) refl)
      (subst (λ (k : ℕ). BeginsWithSheet places k text s (sheets_text places sheets ++ other)) first.0 its) in
      next_sheet done sheets rest other n more (All-tail (IsPrintableSheet places) d done p)
      (All-tail (IsPrintableSheet places) s sheets q) first.1 same.1

  pub no_sheets :
      (freezes front more text : List ℕ) (n : ℕ) (done : List FrozenSheet) (rest : List ℕ)
      → BeginsWithSheets places front text done rest → freezes ≡ front ++ n ∷ more
      → ((s : FrozenSheet) (back : List ℕ) → ¬ (BeginsWithSheet places n rest s back))
      → (sheets : List FrozenSheet) (other : List ℕ) → ¬ (BeginsWithSheets places freezes text sheets other)
  no_sheets freezes front more text n done rest read split none sheets other begins =
      let next =
      next_sheet done sheets rest other n more read.printable begins.printable
      (begins.freezes_are ∙ (split ∙ ap (λ (l : List ℕ). l ++ n ∷ more) (sym read.freezes_are)))
      (sym read.text_is ∙ begins.text_is) in
      none next.0 next.1 next.2

-- no sheet was read
pub no_sheet_read : (places : ℕ) (text : List ℕ) → BeginsWithSheets places [] text [] text
no_sheet_read places text = record { freezes_are = refl; printable = All-nil (IsPrintableSheet places); text_is = refl }

-- one sheet more was read
pub one_sheet_more :
    (places : ℕ) (front next text : List ℕ) (n : ℕ) (done new : List FrozenSheet) (s : FrozenSheet) (rest back : List ℕ)
    → BeginsWithSheets places front text done rest → BeginsWithSheet places n rest s back → next ≡ front ++ n ∷ []
    → new ≡ done ++ s ∷ [] → BeginsWithSheets places next text new back
one_sheet_more places front next text n done new s rest back read one longer pushed =
    subst (λ (l : List FrozenSheet). BeginsWithSheets places next text l back) (sym pushed) (record {
      freezes_are =
          places_push done s ∙ ((λ i. read.freezes_are i ++ one.freeze i ∷ []) ∙ sym longer);
      printable =
          All-append (IsPrintableSheet places) done (s ∷ []) read.printable
          (All-cons (IsPrintableSheet places) s [] one.printable (All-nil (IsPrintableSheet places)));
      text_is =
          read.text_is
          ∙ (ap (λ (t : List ℕ). sheets_text places done ++ t) one.text_is
          ∙ (sym (append_assoc (sheets_text places done) (sheet_text places s) back)
          ∙ ap (λ (t : List ℕ). t ++ back)
          (sym (flat_map-append (sheet_text places) done (s ∷ [])
          ∙ ap (λ (t : List ℕ). sheets_text places done ++ t) (append-nil (sheet_text places s))))));
    })
  where
    places_push :
        (done : List FrozenSheet) (s : FrozenSheet)
        → sheet_places (done ++ s ∷ []) ≡ sheet_places done ++ s.freeze ∷ []
    places_push [] s = refl
    places_push (d ∷ done) s = ap (λ (l : List ℕ). d.freeze ∷ l) (places_push done s)
