-- A sheet in a text is cut at its first line `end` in one way.
use Rattle.std.proofs.Common.{◌≡◌, ◌≢◌, ℕ, ◌-◌, List, [], ◌∷◌, ◌++◌, All, length, take, drop, refl, sym, ap, ◌∙◌, arith}
use Rattle.std.proofs.Common.{append_assoc, length-append}
use Rattle.std.specs.Prelude.{codes}
use Rattle.std.specs.List.{flat_map}
use Rattle.std.proofs.lemmas.Grind.{flat_map-append}
use Rattle.std.proofs.lemmas.List.{append-nil, take_at, drop_at}
use Rattle.std.proofs.lemmas.List.Elements.{All-nil, All-cons, All-append, All-head, All-tail}
use Rattle.sheet_text.specs.Lines.{ended, text_of_lines}
use Rattle.sheet_reader.specs.Cut.{IsWithout}
use Rattle.day_text.specs.SheetParts.{IsInner, IsSheetCut}
use Rattle.day_text.proofs.Cuts.{cut_once, without_none, behind_front}

-- the last line of a sheet, and what is after it
abbrev pub closed : List ℕ → List ℕ
closed rest = codes "end" ++ 10 ∷ rest

-- a line, its end, and what is after
line_front : (line : List ℕ) (lines : List (List ℕ)) (rest : List ℕ)
    → text_of_lines (line ∷ lines) ++ rest ≡ line ++ 10 ∷ (text_of_lines lines ++ rest)
unfolding text_of_lines
line_front line lines rest =
    append_assoc (ended line) (flat_map ended lines) rest ∙ append_assoc line (10 ∷ []) (flat_map ended lines ++ rest)

no_lines : (rest : List ℕ) → text_of_lines [] ++ rest ≡ rest
unfolding text_of_lines
no_lines rest = refl

pub fronts_once :
    (one two : List (List ℕ)) (rest other : List ℕ) → All IsInner one → All IsInner two
    → text_of_lines one ++ closed rest ≡ text_of_lines two ++ closed other → (one ≡ two) × (rest ≡ other)
fronts_once [] [] rest other p q e =
    (refl, behind_front (codes "end" ++ 10 ∷ []) rest other (sym (no_lines (closed rest)) ∙ (e ∙ no_lines (closed other))))
fronts_once [] (line ∷ two) rest other p q e =
    let inner = All-head IsInner line two q in
    absurd (inner.other (sym (cut_once 10 (codes "end") line rest (text_of_lines two ++ closed other) refl inner.whole
    (sym (no_lines (closed rest)) ∙ (e ∙ line_front line two (closed other)))).0))
fronts_once (line ∷ one) [] rest other p q e =
    let inner = All-head IsInner line one p in
    absurd (inner.other (cut_once 10 line (codes "end") (text_of_lines one ++ closed rest) other inner.whole refl
    (sym (line_front line one (closed rest)) ∙ (e ∙ no_lines (closed other)))).0)
fronts_once (line ∷ one) (next ∷ two) rest other p q e =
    let cut =
    cut_once 10 line next (text_of_lines one ++ closed rest) (text_of_lines two ++ closed other)
    (All-head IsInner line one p).whole (All-head IsInner next two q).whole
    (sym (line_front line one (closed rest)) ∙ (e ∙ line_front next two (closed other))) in
    let more = fronts_once one two rest other (All-tail IsInner line one p) (All-tail IsInner next two q) cut.1 in
    ((λ i. cut.0 i ∷ more.0 i), more.1)

-- the text as lines, the line that ends the sheet, and the rest
pub as_closed : (text sheet rest : List ℕ) (cut : IsSheetCut text sheet rest) → text ≡ text_of_lines cut.front ++ closed rest
as_closed text sheet rest cut =
    cut.text_is
    ∙ (ap (λ (t : List ℕ). t ++ rest) cut.sheet_is
    ∙ append_assoc (text_of_lines cut.front) (ended (codes "end")) rest)

pub sheet_once : (text sheet rest other more : List ℕ) → IsSheetCut text sheet rest → IsSheetCut text other more
    → (sheet ≡ other) × (rest ≡ more)
sheet_once text sheet rest other more one two =
    let same =
    fronts_once one.front two.front rest more one.inner two.inner
    (sym (as_closed text sheet rest one) ∙ as_closed text other more two) in
    (one.sheet_is ∙ (ap (λ (f : List (List ℕ)). text_of_lines f ++ ended (codes "end")) same.0 ∙ sym two.sheet_is), same.1)

-- no line is `end`
no_end :
    (front two : List (List ℕ)) (rest other : List ℕ) → All IsInner front → All IsInner two → IsWithout 10 rest
    → text_of_lines front ++ rest ≡ text_of_lines two ++ closed other → ⊥
no_end [] [] rest other p q none e =
    without_none 10 (codes "end") other rest none (sym (no_lines rest) ∙ (e ∙ no_lines (closed other)))
no_end [] (line ∷ two) rest other p q none e =
    without_none 10 line (text_of_lines two ++ closed other) rest none
    (sym (no_lines rest) ∙ (e ∙ line_front line two (closed other)))
no_end (line ∷ front) [] rest other p q none e =
    let inner = All-head IsInner line front p in
    inner.other (cut_once 10 line (codes "end") (text_of_lines front ++ rest) other inner.whole refl
    (sym (line_front line front rest) ∙ (e ∙ no_lines (closed other)))).0
no_end (line ∷ front) (next ∷ two) rest other p q none e =
    let cut =
    cut_once 10 line next (text_of_lines front ++ rest) (text_of_lines two ++ closed other)
    (All-head IsInner line front p).whole (All-head IsInner next two q).whole
    (sym (line_front line front rest) ∙ (e ∙ line_front next two (closed other))) in
    no_end front two rest other (All-tail IsInner line front p) (All-tail IsInner next two q) none cut.1

-- ---- lines that were read

-- Lines within a sheet were read at the front of a text.
pub record LinesRead (text rest : List ℕ) : Type 0 where
  pub front : List (List ℕ)
  pub inner : All IsInner front
  pub text_is : text ≡ text_of_lines front ++ rest

pub none_read : (text : List ℕ) → LinesRead text text
none_read text = record { front = []; inner = All-nil IsInner; text_is = sym (no_lines text) }

-- one line more
pub text_push :
    (lines : List (List ℕ)) (line : List ℕ)
    → text_of_lines (lines ++ line ∷ []) ≡ text_of_lines lines ++ ended line
unfolding text_of_lines
text_push lines line =
    flat_map-append ended lines (line ∷ [])
    ∙ ap (λ (t : List ℕ). flat_map ended lines ++ t) (append-nil (ended line))

text_behind :
    (front : List (List ℕ)) (text rest line behind : List ℕ) → text ≡ text_of_lines front ++ rest
    → rest ≡ line ++ 10 ∷ behind
    → text ≡ (text_of_lines front ++ ended line) ++ behind
text_behind front text rest line behind is cut =
    is
    ∙ (ap (λ (t : List ℕ). text_of_lines front ++ t) (cut ∙ sym (append_assoc line (10 ∷ []) behind))
    ∙ sym (append_assoc (text_of_lines front) (ended line) behind))

pub one_line_more :
    (text rest line behind : List ℕ) → LinesRead text rest → rest ≡ line ++ 10 ∷ behind → IsWithout 10 line
    → line ≢ codes "end" → LinesRead text behind
one_line_more text rest line behind read cut none other = record {
  front = read.front ++ line ∷ [];
  inner =
      All-append IsInner read.front (line ∷ []) read.inner
      (All-cons IsInner line [] (record { whole = none; other = other }) (All-nil IsInner));
  text_is =
      text_behind read.front text rest line behind read.text_is cut
      ∙ ap (λ (t : List ℕ). t ++ behind) (sym (text_push read.front line));
}

pub end_read :
    (text rest line behind sheet back : List ℕ) (n : ℕ) → LinesRead text rest → rest ≡ line ++ 10 ∷ behind
    → line ≡ codes "end" → n ≡ length text - length behind → sheet ≡ take n text → back ≡ drop n text
    → IsSheetCut text sheet back
end_read text rest line behind sheet back n read cut is long taken dropped =
    let own : List ℕ = text_of_lines read.front ++ ended (codes "end") in
    let whole : text ≡ own ++ behind =
    text_behind read.front text rest (codes "end") behind read.text_is (cut ∙ ap (λ (l : List ℕ). l ++ 10 ∷ behind) is) in
    let at : length own ≡ n = omega (arith, long, ap length whole, length-append own behind) in
    let front : sheet ≡ own = taken ∙ (ap (λ (t : List ℕ). take n t) whole ∙ take_at own behind n at) in
    let rear : back ≡ behind = dropped ∙ (ap (λ (t : List ℕ). drop n t) whole ∙ drop_at own behind n at) in
    record {
      front = read.front;
      inner = read.inner;
      sheet_is = front;
      text_is = whole ∙ (λ i. sym front i ++ sym rear i);
    }

pub no_sheet :
    (text rest : List ℕ) → LinesRead text rest → IsWithout 10 rest → (sheet other : List ℕ) → IsSheetCut text sheet other → ⊥
no_sheet text rest read none sheet other cut =
    no_end read.front cut.front rest other read.inner cut.inner none
    (sym read.text_is ∙ as_closed text sheet other cut)
