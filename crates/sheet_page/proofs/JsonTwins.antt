-- Two texts of JSON of one shape, side by side. 44 is the comma.
use Rattle.std.proofs.Common.{◌≡◌, ◌∙◌, refl, sym, ap, subst, ℕ, ◌+◌, ◌%◌, ◌^◌, ◌<◌, ◌≤◌, Bool, true, false}
use Rattle.std.proofs.Common.{List, [], ◌∷◌, ◌++◌, get_or, zero, suc, append_assoc, inl, inr, arith}
use Rattle.std.specs.List.{flat_map, range_with_len}
use Rattle.std.proofs.lemmas.Bool.Decides.{eqb_tells}
use Rattle.std.proofs.lemmas.List.{append_cancel_left}
use Rattle.std.specs.Prelude.{decimal, All, Option, Some, None}
use Rattle.std.proofs.lemmas.Fmt.{decimal_by_steps, decimal_injective}
use Rattle.std.proofs.lemmas.List.Elements.{All-nil, All-cons, All-append, All-head, All-tail}
use Rattle.page_tree.specs.Escaping.{readable}
use Rattle.sheet_page.specs.Json.{truth}
use Rattle.sheet_page.specs.JsonReading.{read_string}
use Rattle.sheet_page.specs.JsonText.{string_text}
use Rattle.sheet_page.specs.Values.{all_places}
use Rattle.sheet_page.proofs.AmountTexts.{heads}
use Rattle.sheet_page.proofs.JsonReads.{strings_read}

-- ---- a number, and a comma after it

abbrev IsDigit : ℕ → Type 0
IsDigit b = (48 ≤ b) × (b ≤ 57)

digits : (n : ℕ) → n < 2 ^ 64 → All IsDigit (decimal n)
digits =
    decimal_by_steps (λ n ds. All IsDigit ds)
    (λ n small. All-cons IsDigit (48 + n) [] (omega arith, omega (arith, small)) (All-nil IsDigit))
    (λ n ds big are. All-append IsDigit ds ((48 + n % 10) ∷ []) are
    (All-cons IsDigit (48 + n % 10) [] (omega arith, omega arith) (All-nil IsDigit)))

-- digits up to a comma are cut off in one way
to_comma : (xs ys rest others : List ℕ) → All IsDigit xs → All IsDigit ys → xs ++ 44 ∷ rest ≡ ys ++ 44 ∷ others
    → (xs ≡ ys) × (rest ≡ others)
to_comma [] [] rest others is also e = (refl, (heads 44 44 rest others e).1)
to_comma [] (y ∷ ys) rest others is also e =
    let first : 44 ≡ y = (heads 44 y rest (ys ++ 44 ∷ others) e).0 in
    absurd (omega (arith, first, (All-head IsDigit y ys also).0))
to_comma (x ∷ xs) [] rest others is also e =
    let first : x ≡ 44 = (heads x 44 (xs ++ 44 ∷ rest) others e).0 in
    absurd (omega (arith, first, (All-head IsDigit x xs is).0))
to_comma (x ∷ xs) (y ∷ ys) rest others is also e =
    let first = heads x y (xs ++ 44 ∷ rest) (ys ++ 44 ∷ others) e in
    let more = to_comma xs ys rest others (All-tail IsDigit x xs is) (All-tail IsDigit y ys also) first.1 in
    ((λ i. first.0 i ∷ more.0 i), more.1)

numbers_cut : (n m : ℕ) (rest others : List ℕ) → n < 2 ^ 64 → m < 2 ^ 64 → decimal n ++ 44 ∷ rest ≡ decimal m ++ 44 ∷ others
    → (n ≡ m) × (rest ≡ others)
numbers_cut n m rest others small few e =
    let parts = to_comma (decimal n) (decimal m) rest others (digits n small) (digits m few) e in
    (decimal_injective n m small few parts.0, parts.1)

-- ---- a string, and a truth

-- what was read, and what is after it
abbrev text_in : Option (List ℕ × List ℕ) → List ℕ
text_in None = []
text_in (Some reading) = reading.0

abbrev rest_in : Option (List ℕ × List ℕ) → List ℕ
rest_in None = []
rest_in (Some reading) = reading.1

texts_cut : (t u rest others : List ℕ) → string_text t ++ rest ≡ string_text u ++ others
    → (readable t ≡ readable u) × (rest ≡ others)
texts_cut t u rest others e =
    let same = sym (strings_read t rest) ∙ ap read_string e ∙ strings_read u others in
    (ap text_in same, ap rest_in same)

-- the first letter
abbrev letter : List ℕ → ℕ
letter word = get_or word 0 0

truths_cut : (a b : Bool) (rest others : List ℕ) → truth a ++ rest ≡ truth b ++ others → (a ≡ b) × (rest ≡ others)
truths_cut true true rest others e = (refl, append_cancel_left (truth true) rest others e)
truths_cut true false rest others e = absurd (omega (arith, ap letter e))
truths_cut false true rest others e = absurd (omega (arith, ap letter e))
truths_cut false false rest others e = (refl, append_cancel_left (truth false) rest others e)

-- ---- parts of two texts

-- what is at a place of two texts: the same bytes, or numbers with a comma after each, or strings, or truths
pub data Twin : Type 0 where
  Bytes : (bytes : List ℕ) → Twin
  Numbers : (n m : ℕ) → Twin
  Strings : (t u : List ℕ) → Twin
  Truths : (a b : Bool) → Twin

-- the parts of the one text, and what is after them
abbrev pub left : List Twin → List ℕ → List ℕ
left [] rest = rest
left (Bytes bytes ∷ twins) rest = bytes ++ left twins rest
left (Numbers n m ∷ twins) rest = decimal n ++ 44 ∷ left twins rest
left (Strings t u ∷ twins) rest = string_text t ++ left twins rest
left (Truths a b ∷ twins) rest = truth a ++ left twins rest

abbrev pub right : List Twin → List ℕ → List ℕ
right [] rest = rest
right (Bytes bytes ∷ twins) rest = bytes ++ right twins rest
right (Numbers n m ∷ twins) rest = decimal m ++ 44 ∷ right twins rest
right (Strings t u ∷ twins) rest = string_text u ++ right twins rest
right (Truths a b ∷ twins) rest = truth b ++ right twins rest

-- numbers fit their types
abbrev pub Fit : List Twin → Type 0
Fit [] = Unit {0}
Fit (Bytes bytes ∷ twins) = Fit twins
Fit (Numbers n m ∷ twins) = (n < 2 ^ 64) × (m < 2 ^ 64) × Fit twins
Fit (Strings t u ∷ twins) = Fit twins
Fit (Truths a b ∷ twins) = Fit twins

-- both say the same
abbrev pub AreOne : List Twin → Type 0
AreOne [] = Unit {0}
AreOne (Bytes bytes ∷ twins) = AreOne twins
AreOne (Numbers n m ∷ twins) = (n ≡ m) × AreOne twins
AreOne (Strings t u ∷ twins) = (readable t ≡ readable u) × AreOne twins
AreOne (Truths a b ∷ twins) = (a ≡ b) × AreOne twins

pub twins_cut : (twins : List Twin) (rest others : List ℕ) → Fit twins → left twins rest ≡ right twins others
    → AreOne twins × (rest ≡ others)
twins_cut [] rest others fit e = (tt, e)
twins_cut (Bytes bytes ∷ twins) rest others fit e =
    twins_cut twins rest others fit (append_cancel_left bytes (left twins rest) (right twins others) e)
twins_cut (Numbers n m ∷ twins) rest others fit e =
    let here = numbers_cut n m (left twins rest) (right twins others) fit.0 fit.1 e in
    let more = twins_cut twins rest others fit.2 here.1 in
    ((here.0, more.0), more.1)
twins_cut (Strings t u ∷ twins) rest others fit e =
    let here = texts_cut t u (left twins rest) (right twins others) e in
    let more = twins_cut twins rest others fit here.1 in
    ((here.0, more.0), more.1)
twins_cut (Truths a b ∷ twins) rest others fit e =
    let here = truths_cut a b (left twins rest) (right twins others) e in
    let more = twins_cut twins rest others fit here.1 in
    ((here.0, more.0), more.1)

-- ---- lists of items

-- Items of two lists, with a bracket after each list: no item begins with the bracket, and items at one
-- place that begin the same bytes
-- say the same.
module _
    (f g : ℕ → List ℕ) (Says : ℕ → Type 0) (most more : ℕ)
    (opens : (p : ℕ) (rest others : List ℕ) → f p ++ rest ≡ 93 ∷ others → ⊥)
    (starts : (p : ℕ) (rest others : List ℕ) → g p ++ rest ≡ 93 ∷ others → ⊥)
    (one : (p : ℕ) (rest others : List ℕ) → p < most → p < more → f p ++ rest ≡ g p ++ others
    → Says p × (rest ≡ others)) where
  from_place :
      (a n m : ℕ) (rest others : List ℕ) → a + n ≤ most → a + m ≤ more
      → flat_map f (range_with_len a n) ++ 93 ∷ rest ≡ flat_map g (range_with_len a m) ++ 93 ∷ others
      → (n ≡ m) × ((p : ℕ) → a ≤ p → p < a + n → Says p) × (rest ≡ others)
  from_place a zero zero rest others within also e =
      (refl, (λ p low high. absurd (omega (arith, low, high))), (heads 93 93 rest others e).1)
  from_place a zero (suc m) rest others within also e =
      absurd (starts a (flat_map g (range_with_len (a + 1) m) ++ 93 ∷ others) rest
      (sym (append_assoc (g a) (flat_map g (range_with_len (a + 1) m)) (93 ∷ others)) ∙ sym e))
  from_place a (suc n) zero rest others within also e =
      absurd (opens a (flat_map f (range_with_len (a + 1) n) ++ 93 ∷ rest) others
      (sym (append_assoc (f a) (flat_map f (range_with_len (a + 1) n)) (93 ∷ rest)) ∙ e))
  from_place a (suc n) (suc m) rest others within also e =
      let fs = flat_map f (range_with_len (a + 1) n) in
      let gs = flat_map g (range_with_len (a + 1) m) in
      let here = one a (fs ++ 93 ∷ rest) (gs ++ 93 ∷ others) (omega (arith, within)) (omega (arith, also))
      (sym (append_assoc (f a) fs (93 ∷ rest)) ∙ e ∙ append_assoc (g a) gs (93 ∷ others)) in
      let behind = from_place (a + 1) n m rest others (omega (arith, within)) (omega (arith, also)) here.1 in (
        ap suc behind.0,
        λ p low high. elim (eqb_tells p a) [
          | inl is ↦ subst Says (sym is.1) here.0
          | inr other ↦ behind.1 p (omega (arith, low, other.1)) (omega (arith, high))
        ],
        behind.2,
      )

  pub lists_cut :
      (rest others : List ℕ) → flat_map f (all_places most) ++ 93 ∷ rest ≡ flat_map g (all_places more) ++ 93 ∷ others
      → (most ≡ more) × ((p : ℕ) → p < most → Says p) × (rest ≡ others)
  lists_cut rest others e =
      let all = from_place 0 most more rest others (omega arith) (omega arith) e in
      (all.0, (λ p below. all.1 p (omega arith) (omega (arith, below))), all.2)
