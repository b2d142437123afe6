-- Where a text of JSON ends, whatever is after it.
use Rattle.std.proofs.Common.{◌≡◌, ◌∙◌, refl, sym, ap, ℕ, ◌+◌, ◌*◌, ◌<◌, ◌≤◌, ◌^◌, ◌==◌, ◌||◌, Bool, true}
use Rattle.std.proofs.Common.{false, cond, not, arith, List, [], ◌∷◌, ◌++◌}
use Rattle.std.proofs.Common.{decimal, subst, length, inl, inr}
use Rattle.std.specs.Prelude.{nat_lt, Option, Some, None}
use Rattle.std.specs.Prelude.{if◌then◌else◌}
use Rattle.std.specs.Str.Parse.{AllDigits}
use Rattle.std.proofs.lemmas.Bool.{cases_Bool, ltb-true, le-ltb, ne_eqb}
use Rattle.std.proofs.lemmas.Bool.Decides.{eqb_tells}
use Rattle.std.proofs.lemmas.Fmt.{decimal_is_IsNumeral, decimal_injective}
use Rattle.std.proofs.lemmas.Str.Parse.{digit_from_value}
use Rattle.sheet_page.specs.JsonReading.{Spot, Between, BehindBackslash, InNumber, is_hex, hex_value}
use Rattle.sheet_page.specs.JsonReading.{is_short, short, read_on, read_string}
use Rattle.sheet_page.specs.JsonGrammar.{Json, Text, Whole, Truth, Array, Object, IsString, IsTextOf}

-- ---- strings

abbrev Read : Type 0
Read = Option (List ℕ × List ℕ)

-- a choice that comes to this text, where each side carries over
carry :
    (c : Bool) (x y x' y' out out' : Read) → (x ≡ out → x' ≡ out') → (y ≡ out → y' ≡ out') → cond c x y ≡ out
    → cond c x' y' ≡ out'
carry true x y x' y' out out' one other e = one e
carry false x y x' y' out out' one other e = other e

abbrev no_text : Read
no_text = None

abbrev text_and : (text rest : List ℕ) → Read
text_and text rest = Some (text, rest)

none : (t r a : List ℕ) → no_text ≡ text_and t r → no_text ≡ text_and t (r ++ a)
none t r a e = cc

-- bytes after what a string has after it
abbrev behind : List ℕ → Read → Read
behind a None = None
behind a (Some read) = Some (read.0, read.1 ++ a)

abbrev text_in : Read → List ℕ
text_in None = []
text_in (Some read) = read.0

abbrev rest_in : Read → List ℕ
rest_in None = []
rest_in (Some read) = read.1

there : (text rest t r a : List ℕ) → text_and text rest ≡ text_and t r → text_and text (rest ++ a) ≡ text_and t (r ++ a)
there text rest t r a e = ap (behind a) e

-- bytes after a string change nothing of its text
read-front :
    (bytes : List ℕ) (spot : Spot) (text t r a : List ℕ) → read_on text spot bytes ≡ Some (t, r)
    → read_on text spot (bytes ++ a) ≡ Some (t, r ++ a)
read-front [] spot text t r a e = cc
read-front (b ∷ rest) Between text t r a e =
    carry (b == 34) _ _ _ _ _ _ (there text rest t r a)
    (carry (b == 92) _ _ _ _ _ _ (read-front rest BehindBackslash text t r a)
    (carry (nat_lt b 32) _ _ _ _ _ _ (none t r a) (read-front rest Between (text ++ b ∷ []) t r a))) e
read-front (b ∷ rest) BehindBackslash text t r a e =
    carry (b == 117) _ _ _ _ _ _ (read-front rest (InNumber 0 0) text t r a)
    (carry (is_short b) _ _ _ _ _ _ (read-front rest Between (text ++ short b ∷ []) t r a) (none t r a)) e
read-front (b ∷ rest) (InNumber digits number) text t r a e =
    carry (not (is_hex b)) _ _ _ _ _ _ (none t r a)
    (carry (nat_lt digits 3) _ _ _ _ _ _ (read-front rest (InNumber (digits + 1) (number * 16 + hex_value b)) text t r a)
    (carry (nat_lt (number * 16 + hex_value b) 128) _ _ _ _ _ _
    (read-front rest Between (text ++ (number * 16 + hex_value b) ∷ []) t r a) (none t r a))) e

string-front : (bytes t a : List ℕ) → IsString t bytes → read_string (bytes ++ a) ≡ Some (t, a)
string-front [] t a e = cc
string-front (b ∷ rest) t a e = carry (b == 34) _ _ _ _ _ _ (read-front rest Between [] t [] a) (none t [] a) e

-- two strings at the front of the same bytes
pub strings-one :
    (s t key other a b : List ℕ) → IsString key s → IsString other t → s ++ a ≡ t ++ b → (key ≡ other) × (a ≡ b)
strings-one s t key other a b one two e =
    same (sym (string-front s key a one) ∙ ap read_string e ∙ string-front t other b two)
  where
    same : {x y z w : List ℕ} → text_and x y ≡ text_and z w → (x ≡ z) × (y ≡ w)
    same e = (ap text_in e, ap rest_in e)

-- ---- numbers

-- Bytes that begin with no digit.
abbrev pub Ends : List ℕ → Type 0
Ends [] = Unit {0}
Ends (b ∷ rest) = nat_lt b 48 || nat_lt 57 b ≡ true

abbrev Digits : List ℕ → Type 0
Digits [] = Unit {0}
Digits (c ∷ cs) = (48 ≤ c) × (c ≤ 57) × Digits cs

digits-of : (ds : List ℕ) → AllDigits 10 ds → Digits ds
digits-of [] all = tt
digits-of (c ∷ cs) all =
    (omega (arith, digit_from_value c all.0), omega (arith, digit_from_value c all.0), digits-of cs all.1)

no-digit : (b : ℕ) (rest : List ℕ) → Ends (b ∷ rest) → 48 ≤ b → b ≤ 57 → ⊥
no-digit b rest ends low high =
    elim (cases_Bool (nat_lt b 48)) [
      | inl below ↦ omega (arith, low, ltb-true b 48 below)
      | inr not_below ↦ elim (cases_Bool (nat_lt 57 b)) [
        | inl above ↦ omega (arith, high, ltb-true 57 b above)
        | inr not_above ↦ apart (sym ends ∙ ap (λ (x : Bool). x || nat_lt 57 b) not_below ∙ not_above)
      ]
    ]
  where
    apart : true ≡ false → ⊥
    apart e = cc

-- two runs of digits at the front of the same bytes
runs-one :
    (xs ys a b : List ℕ) → Digits xs → Digits ys → Ends a → Ends b → xs ++ a ≡ ys ++ b → (xs ≡ ys) × (a ≡ b)
runs-one [] [] a b one two ends others e = (refl, e)
runs-one [] (y ∷ ys) [] b one two ends others e = absurd (empty e)
  where
    empty : {z : ℕ} {zs : List ℕ} → [] ≡ z ∷ zs → ⊥
    empty e = cc
runs-one [] (y ∷ ys) (c ∷ a) b one two ends others e =
    let same : y ≡ c = cc in
    absurd (no-digit c a ends (omega (arith, same, two.0)) (omega (arith, same, two.1)))
runs-one (x ∷ xs) [] a [] one two ends others e = absurd (empty e)
  where
    empty : {z : ℕ} {zs : List ℕ} → z ∷ zs ≡ [] → ⊥
    empty e = cc
runs-one (x ∷ xs) [] a (c ∷ b) one two ends others e =
    let same : x ≡ c = cc in
    absurd (no-digit c b others (omega (arith, same, one.0)) (omega (arith, same, one.1)))
runs-one (x ∷ xs) (y ∷ ys) a b one two ends others e =
    let head : x ≡ y = cc in
    let tail : xs ++ a ≡ ys ++ b = cc in
    let rest = runs-one xs ys a b one.2 two.2 ends others tail in
    (ap (λ (c : ℕ). c ∷ xs) head ∙ ap (λ (l : List ℕ). y ∷ l) rest.0, rest.1)

-- two numbers at the front of the same bytes
pub numbers-one :
    (m n : ℕ) (a b : List ℕ) → m < 2 ^ 64 → n < 2 ^ 64 → Ends a → Ends b → decimal m ++ a ≡ decimal n ++ b
    → (m ≡ n) × (a ≡ b)
numbers-one m n a b small few ends others e =
    let one = digits-of (decimal m) (decimal_is_IsNumeral m small).0.1 in
    let two = digits-of (decimal n) (decimal_is_IsNumeral n few).0.1 in
    let both = runs-one (decimal m) (decimal n) a b one two ends others e in
    (decimal_injective m n small few both.0, both.1)

-- ---- the first byte of a text

-- which values begin with a byte: 0 texts, 1 numbers, 2 truths, 3 lists, 4 objects, and 5 none
abbrev pub kind : ℕ → ℕ
kind b =
    if b == 34 then 0
    else if b == 116 then 2
    else if b == 102 then 2
    else if b == 91 then 3
    else if b == 123 then 4
    else if nat_lt b 48 || nat_lt 57 b then 5
    else 1

abbrev pub kind_of : Json → ℕ
kind_of (Text text) = 0
kind_of (Whole n) = 1
kind_of (Truth mark) = 2
kind_of (Array items) = 3
kind_of (Object members) = 4

pub kind-low : (x : Json) → kind_of x ≤ 4
kind-low (Text text) = omega arith
kind-low (Whole n) = omega arith
kind-low (Truth mark) = omega arith
kind-low (Array items) = omega arith
kind-low (Object members) = omega arith

abbrev pub Begins : (k : ℕ) → List ℕ → Type 0
Begins k [] = ⊥
Begins k (b ∷ rest) = kind b ≡ k

digit-kind : (b : ℕ) → 48 ≤ b → b ≤ 57 → kind b ≡ 1
digit-kind b low high =
    rw (
      ne_eqb b 34 (λ is. omega (arith, is)),
      ne_eqb b 116 (λ is. omega (arith, is)),
      ne_eqb b 102 (λ is. omega (arith, is)),
      ne_eqb b 91 (λ is. omega (arith, is)),
      ne_eqb b 123 (λ is. omega (arith, is)),
      le-ltb b 48 low,
      le-ltb 57 b high,
    ) refl

pub string-begins : (t s : List ℕ) → IsString t s → Begins 0 s
string-begins t [] e = none e
  where
    none : no_text ≡ text_and t [] → ⊥
    none e = cc
string-begins t (b ∷ rest) e =
    elim (eqb_tells b 34) [
      | inl is ↦ ap kind is.1
      | inr other ↦ absurd (none (sym (ap (λ (c : Bool). cond c (read_on [] Between rest) None) other.0) ∙ e))
    ]
  where
    none : no_text ≡ text_and t [] → ⊥
    none e = cc

digits-begin : (ds : List ℕ) → 0 < length ds → Digits ds → Begins 1 ds
digits-begin [] some all = absurd (omega (arith, some))
digits-begin (c ∷ cs) some all = digit-kind c all.0 all.1

pub text-begins : (x : Json) (s : List ℕ) → IsTextOf x s → Begins (kind_of x) s
text-begins (Text text) s is = string-begins text s is
text-begins (Whole n) s is =
    let numeral = (decimal_is_IsNumeral n is.0).0 in
    subst (Begins 1) (sym is.1) (digits-begin (decimal n) numeral.0 (digits-of (decimal n) numeral.1))
text-begins (Truth true) s is = subst (Begins 2) (sym is) refl
text-begins (Truth false) s is = subst (Begins 2) (sym is) refl
text-begins (Array items) s is = subst (Begins 3) (sym is.1) refl
text-begins (Object members) s is = subst (Begins 4) (sym is.1) refl

-- two texts at the front of the same bytes begin alike
pub begin-alike : (j k : ℕ) (s t a b : List ℕ) → Begins j s → Begins k t → s ++ a ≡ t ++ b → j ≡ k
begin-alike j k [] t a b one two e = absurd one
begin-alike j k (x ∷ s) [] a b one two e = absurd two
begin-alike j k (x ∷ s) (y ∷ t) a b one two e =
    let head : x ≡ y = cc in
    sym one ∙ ap kind head ∙ two
