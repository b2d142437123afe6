-- A text is cut at the first of a byte in one way, and a number is read as it was written.
use Rattle.std.proofs.Common.{take, length, ◌≡◌, ℕ, ◌+◌, ◌^◌, ◌<◌, Bool, true, false}
use Rattle.std.proofs.Common.{cond, eqb, List, [], ◌∷◌, ◌++◌, get_or, refl, sym, ◌∙◌, ap, subst, arith, append_assoc}
use Rattle.std.specs.Prelude.{decimal, ◌≢◌, Option, Some, None}
use Rattle.std.proofs.lemmas.Bool.{ne_eqb}
use Rattle.std.proofs.lemmas.Grind.{take_at_read}
use Rattle.std.specs.Str.{IsUtf8}
use Rattle.std.specs.Str.Parse.{AllDigits}
use Rattle.std.proofs.lemmas.Str.{IsUtf8-from_ascii}
use Rattle.std.proofs.lemmas.Str.Parse.{digit_from_value}
use Rattle.std.proofs.lemmas.Fmt.{decimal_is_IsNumeral, decimal_injective, IsAscii-from_digits}
use Rattle.sheet_reader.specs.Cut.{is_without, IsWithout}
use Rattle.sheet_reader.specs.Numeral.{IsNumeralOf}
use Rattle.day_text.specs.Parts.{numbered_text, revised_text}

-- ---- bytes

-- the first byte of a text without it is another
pub first_other : (b d : ℕ) (bs : List ℕ) → IsWithout d (b ∷ bs) → (eqb b d ≡ false) × IsWithout d bs
first_other b d bs h = by (eqb b d) h
  where
    by : (t : Bool) → cond t false (is_without d bs) ≡ true → (t ≡ false) × IsWithout d bs
    by true e = absurd cc
    by false e = (refl, e)

pub heads : {A : Type 0} (a b : A) (xs ys : List A) → a ∷ xs ≡ b ∷ ys → (a ≡ b) × (xs ≡ ys)
heads a b xs ys e = (cc, cc)

itself : (d y : ℕ) → y ≡ d → eqb y d ≡ false → ⊥
itself d y e n = grind arith

pub cut_once :
    (d : ℕ) (xs ys back other : List ℕ) → IsWithout d xs → IsWithout d ys → xs ++ d ∷ back ≡ ys ++ d ∷ other
    → (xs ≡ ys) × (back ≡ other)
cut_once d [] [] back other p q e = (refl, (heads d d back other e).1)
cut_once d [] (y ∷ ys) back other p q e =
    let h = heads d y back (ys ++ d ∷ other) e in absurd (itself d y (sym h.0) (first_other y d ys q).0)
cut_once d (x ∷ xs) [] back other p q e =
    let h = heads x d (xs ++ d ∷ back) other e in absurd (itself d x h.0 (first_other x d xs p).0)
cut_once d (x ∷ xs) (y ∷ ys) back other p q e =
    let h = heads x y (xs ++ d ∷ back) (ys ++ d ∷ other) e in
    let r = cut_once d xs ys back other (first_other x d xs p).1 (first_other y d ys q).1 h.1 in
    ((λ i. h.0 i ∷ r.0 i), r.1)

pub without-append : (d : ℕ) (xs ys : List ℕ) → IsWithout d xs → IsWithout d ys → IsWithout d (xs ++ ys)
without-append d [] ys p q = q
without-append d (x ∷ xs) ys p q =
    let h = first_other x d xs p in
    ap (λ (t : Bool). cond t false (is_without d (xs ++ ys))) h.0 ∙ without-append d xs ys h.1 q

differs : (c d : ℕ) → d < c → eqb c d ≡ false
differs c d l = grind arith

pub without_cons : (d b : ℕ) (bs : List ℕ) → d < b → IsWithout d bs → IsWithout d (b ∷ bs)
without_cons d b bs l p = ap (λ (t : Bool). cond t false (is_without d bs)) (differs b d l) ∙ p

digits_without : (d : ℕ) (ds : List ℕ) → d < 48 → AllDigits 10 ds → IsWithout d ds
digits_without d [] low all = refl
digits_without d (c ∷ cs) low all =
    without_cons d c cs (omega (arith, digit_from_value c all.0)) (digits_without d cs low all.1)

pub decimal_without : (d n : ℕ) → d < 48 → n < 2 ^ 64 → IsWithout d (decimal n)
decimal_without d n low small = digits_without d (decimal n) low (decimal_is_IsNumeral n small).0.1

-- one byte more
pub without-next :
    (d : ℕ) (xs : List ℕ) (i : ℕ) → i < length xs → IsWithout d (take i xs) → get_or xs i 0 ≢ d
    → IsWithout d (take (i + 1) xs)
without-next d xs i in_range p n =
    subst (λ (l : List ℕ). IsWithout d l) (sym (take_at_read xs i 0 in_range).1)
    (without-append d (take i xs) (get_or xs i 0 ∷ []) p
    (ap (λ (t : Bool). cond t false true) (ne_eqb (get_or xs i 0) d n)))

-- a text with the byte is not without it
pub without_none : (d : ℕ) (xs ys text : List ℕ) → IsWithout d text → text ≡ xs ++ d ∷ ys → ⊥
without_none d xs ys text p is = by xs (subst (λ (l : List ℕ). IsWithout d l) is p)
  where
    by : (xs : List ℕ) → IsWithout d (xs ++ d ∷ ys) → ⊥
    by [] h = itself d d refl (first_other d d ys h).0
    by (x ∷ xs) h = by xs (first_other x d (xs ++ d ∷ ys) h).1

-- what is after the same front
pub behind_front : (front xs ys : List ℕ) → front ++ xs ≡ front ++ ys → xs ≡ ys
behind_front [] xs ys e = e
behind_front (b ∷ front) xs ys e = behind_front front xs ys (heads b b (front ++ xs) (front ++ ys) e).1

pub none_some : {A : Type 0} (r : Option A) (x : A) → r ≡ None → r ≡ Some x → ⊥
none_some r x e f = absurd cc

pub some_is : {A : Type 0} (r : Option A) (x y : A) → r ≡ Some x → r ≡ Some y → x ≡ y
some_is r x y e f = cc

pub false-ne_true : false ≡ true → ⊥
false-ne_true e = cc

-- ---- numbers

-- the digits of a number
pub numeral_here : (text : List ℕ) (n : ℕ) → n < 2 ^ 64 → text ≡ decimal n → IsNumeralOf text n
numeral_here text n small is =
    let of = decimal_is_IsNumeral n small in
    subst (λ (t : List ℕ). IsNumeralOf t n) (sym is)
    (record { digits = of.0.1; some = of.0.0; value = of.1; small = small })

pub utf8_numeral : (text : List ℕ) (n : ℕ) → IsNumeralOf text n → IsUtf8 text
utf8_numeral text n is = IsUtf8-from_ascii text (IsAscii-from_digits text is.digits)

-- the number before a space, and what is after it
pub number_cut :
    (text front back other : List ℕ) (n : ℕ) → text ≡ front ++ 32 ∷ back → IsWithout 32 front → n < 2 ^ 64
    → text ≡ decimal n ++ 32 ∷ other → (front ≡ decimal n) × (back ≡ other)
number_cut text front back other n is w small e =
    cut_once 32 front (decimal n) back other w (decimal_without 32 n (omega arith) small) (sym is ∙ e)

-- what is after a number and a space
pub spaced_behind :
    (text front behind rest : List ℕ) (n : ℕ) → text ≡ front ++ behind → front ≡ decimal n → text ≡ decimal n ++ 32 ∷ rest
    → behind ≡ 32 ∷ rest
spaced_behind text front behind rest n is of e =
    behind_front (decimal n) behind (32 ∷ rest) (sym (ap (λ (t : List ℕ). t ++ behind) of) ∙ (sym is ∙ e))

pub spaced_is :
    (text front behind rest : List ℕ) (n : ℕ) → text ≡ front ++ behind → front ≡ decimal n → behind ≡ 32 ∷ rest
    → text ≡ decimal n ++ 32 ∷ rest
spaced_is text front behind rest n is of e = is ∙ (λ i. of i ++ e i)

-- what is after a word
pub behind_word : (word text rest other : List ℕ) → text ≡ word ++ rest → text ≡ word ++ other → rest ≡ other
behind_word word text rest other one two = behind_front word rest other (sym one ∙ two)

-- a word, a number and what is after are read in one way
pub numbered_once :
    (word : List ℕ) (m n : ℕ) (rest other : List ℕ) → m < 2 ^ 64 → n < 2 ^ 64
    → numbered_text word m rest ≡ numbered_text word n other → (m ≡ n) × (rest ≡ other)
numbered_once word m n rest other small few e =
    let cut =
    cut_once 32 (decimal m) (decimal n) rest other (decimal_without 32 m (omega arith) small)
    (decimal_without 32 n (omega arith) few)
    (behind_front word (decimal m ++ 32 ∷ rest) (decimal n ++ 32 ∷ other) e) in
    (decimal_injective m n small few cut.0, cut.1)

-- the numbers of a batch and of a revision after a word
pub revised_is :
    (word : List ℕ) (batch revision : ℕ) (rest : List ℕ)
    → (word ++ (decimal batch ++ 32 ∷ decimal revision)) ++ 32 ∷ rest ≡ revised_text word batch revision rest
revised_is word batch revision rest =
    append_assoc word (decimal batch ++ 32 ∷ decimal revision) (32 ∷ rest)
    ∙ ap (λ (t : List ℕ). word ++ t) (append_assoc (decimal batch) (32 ∷ decimal revision) (32 ∷ rest))
