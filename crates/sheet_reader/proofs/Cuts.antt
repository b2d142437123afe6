-- A text is cut at the first of a byte in one way.
use Rattle.std.proofs.Common.{take, length, ◌≡◌, ℕ, ◌+◌, ◌*◌, ◌/◌, ◌%◌, ◌^◌, ◌<◌, ◌≤◌, Bool, true, false}
use Rattle.std.proofs.Common.{cond, eqb, List, [], ◌∷◌, ◌++◌, get_or, refl, sym, ◌∙◌, ap, subst, arith}
use Rattle.std.specs.Prelude.{decimal, ◌≢◌, Option, Some, None}
use Rattle.std.proofs.lemmas.Bool.{ne_eqb}
use Rattle.std.proofs.lemmas.Grind.{take_at_read}
use Rattle.std.specs.Str.Parse.{AllDigits}
use Rattle.std.proofs.lemmas.Str.Parse.{digit_from_value}
use Rattle.std.proofs.lemmas.Fmt.{decimal_is_IsNumeral}
use Rattle.plain_ballots.specs.declared.limits.TheConstants.{MOST_CANDIDATES}
use Rattle.candidate_roll.specs.declared.state.State.{State}
use Rattle.candidate_roll.specs.declared.state.State.TheVariants.{Hopeful, Elected, Defeated, Withdrawn}
use Rattle.fixed_place.specs.Text.{text_of, last_digits}
use Rattle.sheet_text.specs.Lines.{state_word}
use Rattle.fixed_place.specs.Rounding.{scale, most}
use Rattle.sheet_reader.proofs.Digits.{digits-last_digits, whole_small, parts_of_text, most_is}
use Rattle.sheet_reader.specs.Cut.{is_without, IsWithout, four_parts_of, standing_line}

-- the first byte of a text without it is another
pub first_other : (b d : ℕ) (bs : List ℕ) → IsWithout d (b ∷ bs) → (eqb b d ≡ false) × IsWithout d bs
first_other b d bs h = by (eqb b d) h
  where
    by : (t : Bool) → cond t false (is_without d bs) ≡ true → (t ≡ false) × IsWithout d bs
    by true e = absurd cc
    by false e = (refl, e)

heads : (a b : ℕ) (xs ys : List ℕ) → a ∷ xs ≡ b ∷ ys → (a ≡ b) × (xs ≡ ys)
heads a b xs ys e = (cc, cc)

pub cut_once :
    (d : ℕ) (xs ys back other : List ℕ) → IsWithout d xs → IsWithout d ys → xs ++ d ∷ back ≡ ys ++ d ∷ other
    → (xs ≡ ys) × (back ≡ other)
cut_once d [] [] back other p q e = (refl, (heads d d back other e).1)
cut_once d [] (y ∷ ys) back other p q e =
    let h = heads d y back (ys ++ d ∷ other) e in absurd (itself d y (sym h.0) (first_other y d ys q).0)
  where
    itself : (d y : ℕ) → y ≡ d → eqb y d ≡ false → ⊥
    itself d y e n = grind arith
cut_once d (x ∷ xs) [] back other p q e =
    let h = heads x d (xs ++ d ∷ back) other e in absurd (itself d x h.0 (first_other x d xs p).0)
  where
    itself : (d y : ℕ) → y ≡ d → eqb y d ≡ false → ⊥
    itself d y e n = grind arith
cut_once d (x ∷ xs) (y ∷ ys) back other p q e =
    let h = heads x y (xs ++ d ∷ back) (ys ++ d ∷ other) e in
    let r = cut_once d xs ys back other (first_other x d xs p).1 (first_other y d ys q).1 h.1 in
    ((λ i. h.0 i ∷ r.0 i), r.1)

pub without-append : (d : ℕ) (xs ys : List ℕ) → IsWithout d xs → IsWithout d ys → IsWithout d (xs ++ ys)
without-append d [] ys p q = q
without-append d (x ∷ xs) ys p q =
    let h = first_other x d xs p in
    ap (λ (t : Bool). cond t false (is_without d (xs ++ ys))) h.0 ∙ without-append d xs ys h.1 q

differs : (c d : ℕ) → d < c → eqb c d ≡ false
differs c d l = grind arith

digits_without : (d : ℕ) (ds : List ℕ) → d < 48 → AllDigits 10 ds → IsWithout d ds
digits_without d [] low all = refl
digits_without d (c ∷ cs) low all =
    ap (λ (t : Bool). cond t false (is_without d cs)) (differs c d (omega (arith, digit_from_value c all.0)))
    ∙ digits_without d cs low all.1

pub decimal_without : (d n : ℕ) → d < 48 → n < 2 ^ 64 → IsWithout d (decimal n)
decimal_without d n low small = digits_without d (decimal n) low (decimal_is_IsNumeral n small).0.1

pub word_without_space : (state : State) → IsWithout 32 (state_word state)
word_without_space Hopeful = refl
word_without_space Elected = refl
word_without_space Defeated = refl
word_without_space Withdrawn = refl

pub word_without_end : (state : State) → IsWithout 10 (state_word state)
word_without_end Hopeful = refl
word_without_end Elected = refl
word_without_end Defeated = refl
word_without_end Withdrawn = refl

-- no two states are called the same
pub word_injective : (state other : State) → state_word state ≡ state_word other → state ≡ other
word_injective Hopeful Hopeful e = refl
word_injective Hopeful Elected e = absurd (omega (arith, ap (λ (l : List ℕ). get_or l 0 0) e))
word_injective Hopeful Defeated e = absurd (omega (arith, ap (λ (l : List ℕ). get_or l 0 0) e))
word_injective Hopeful Withdrawn e = absurd (omega (arith, ap (λ (l : List ℕ). get_or l 0 0) e))
word_injective Elected Hopeful e = absurd (omega (arith, ap (λ (l : List ℕ). get_or l 0 0) e))
word_injective Elected Elected e = refl
word_injective Elected Defeated e = absurd (omega (arith, ap (λ (l : List ℕ). get_or l 0 0) e))
word_injective Elected Withdrawn e = absurd (omega (arith, ap (λ (l : List ℕ). get_or l 0 0) e))
word_injective Defeated Hopeful e = absurd (omega (arith, ap (λ (l : List ℕ). get_or l 0 0) e))
word_injective Defeated Elected e = absurd (omega (arith, ap (λ (l : List ℕ). get_or l 0 0) e))
word_injective Defeated Defeated e = refl
word_injective Defeated Withdrawn e = absurd (omega (arith, ap (λ (l : List ℕ). get_or l 0 0) e))
word_injective Withdrawn Hopeful e = absurd (omega (arith, ap (λ (l : List ℕ). get_or l 0 0) e))
word_injective Withdrawn Elected e = absurd (omega (arith, ap (λ (l : List ℕ). get_or l 0 0) e))
word_injective Withdrawn Defeated e = absurd (omega (arith, ap (λ (l : List ℕ). get_or l 0 0) e))
word_injective Withdrawn Withdrawn e = refl

-- the text of an amount has neither a space nor a line feed
pub amount_without : (d places units : ℕ) → d < 46 → places ≤ 9 → units ≤ most places → IsWithout d (text_of places units)
unfolding text_of
amount_without d places units low few small =
    without-append d (decimal (units / scale places)) (46 ∷ last_digits places (units % scale places))
    (decimal_without d (units / scale places) (omega (arith, low)) (omega (arith, whole_small places units few small)))
    (ap (λ (t : Bool). cond t false (is_without d (last_digits places (units % scale places)))) (differs 46 d low)
    ∙ digits_without d (last_digits places (units % scale places)) (omega (arith, low))
    (digits-last_digits places (units % scale places)))

-- an amount has one text
pub amount_injective :
    (places u w : ℕ) → 6 ≤ places → places ≤ 9 → u ≤ most places → w ≤ most places
    → text_of places u ≡ text_of places w → u ≡ w
amount_injective places u w some few small other e =
    let p = parts_of_text places u (text_of places u) some few small refl in
    let q = parts_of_text places w (text_of places u) some few other e in
    sym p.again ∙ (λ i. (sym p.whole.value ∙ q.whole.value) i * scale places + (sym p.rest.value ∙ q.rest.value) i) ∙ q.again

-- one byte more
pub without-push : (d : ℕ) (xs : List ℕ) (b : ℕ) → IsWithout d xs → b ≢ d → IsWithout d (xs ++ b ∷ [])
without-push d xs b p n = without-append d xs (b ∷ []) p (ap (λ (t : Bool). cond t false true) (ne_eqb b d n))

pub without-next :
    (d : ℕ) (xs : List ℕ) (i : ℕ) → i < length xs → IsWithout d (take i xs) → get_or xs i 0 ≢ d
    → IsWithout d (take (i + 1) xs)
without-next d xs i in_range p n =
    subst (λ (l : List ℕ). IsWithout d l) (sym (take_at_read xs i 0 in_range).1)
    (without-push d (take i xs) (get_or xs i 0) p n)

-- a text with the byte is not without it
pub without_none : (d : ℕ) (xs ys text : List ℕ) → IsWithout d text → text ≡ xs ++ d ∷ ys → ⊥
without_none d xs ys text p is = by xs (subst (λ (l : List ℕ). IsWithout d l) is p)
  where
    itself : (d : ℕ) → eqb d d ≡ false → ⊥
    itself d n = grind arith

    by : (xs : List ℕ) → IsWithout d (xs ++ d ∷ ys) → ⊥
    by [] h = itself d (first_other d d ys h).0
    by (x ∷ xs) h = by xs (first_other x d (xs ++ d ∷ ys) h).1

-- a line of four parts has them in one way
pub four_parts : (a b c e a' b' c' e' text : List ℕ)
    → text ≡ four_parts_of a b c e → text ≡ four_parts_of a' b' c' e'
    → IsWithout 32 a → IsWithout 32 a' → IsWithout 32 b → IsWithout 32 b' → IsWithout 32 c → IsWithout 32 c'
    → (a ≡ a') × (b ≡ b') × (c ≡ c') × (e ≡ e')
four_parts a b c e a' b' c' e' text is other p p' q q' r r' =
    let one = cut_once 32 a a' (b ++ 32 ∷ (c ++ 32 ∷ e)) (b' ++ 32 ∷ (c' ++ 32 ∷ e')) p p' (sym is ∙ other) in
    let two = cut_once 32 b b' (c ++ 32 ∷ e) (c' ++ 32 ∷ e') q q' one.1 in
    let three = cut_once 32 c c' e e' r r' two.1 in
    (one.0, two.0, three.0, three.1)

-- the second part is what is after the first space
pub behind :
    (d : ℕ) (xs ys back other text : List ℕ) → text ≡ xs ++ d ∷ back → IsWithout d xs → IsWithout d ys
    → text ≡ ys ++ d ∷ other → back ≡ other
behind d xs ys back other text is p q e = (cut_once d xs ys back other p q (sym is ∙ e)).1

pub none_some : {A : Type 0} (r : Option A) (x : A) → r ≡ None → r ≡ Some x → ⊥
none_some r x e f = absurd cc

pub scale-most : (places : ℕ) → scale places ≤ most places
scale-most places = omega (arith, most_is places)

-- the parts of a candidate's line
pub parts_of_standing : (places p : ℕ) (state : State) (keep vote : ℕ) (a b c e text : List ℕ)
    → places ≤ 9 → p < MOST_CANDIDATES → keep ≤ scale places → vote ≤ most places
    → text ≡ four_parts_of a b c e → IsWithout 32 a → IsWithout 32 b → IsWithout 32 c
    → text ≡ standing_line places p state keep vote
    → (a ≡ decimal (p + 1)) × (b ≡ state_word state) × (c ≡ text_of places keep) × (e ≡ text_of places vote)
parts_of_standing places p state keep vote a b c e text few place small votes is wa wb wc other =
    four_parts a b c e (decimal (p + 1)) (state_word state) (text_of places keep) (text_of places vote) text is other
    wa (decimal_without 32 (p + 1) (omega arith) (omega (arith, place)))
    wb (word_without_space state)
    wc (amount_without 32 places keep (omega arith) few (omega (arith, small, scale-most places)))

pub some_is : {A : Type 0} (r : Option A) (x y : A) → r ≡ Some x → r ≡ Some y → x ≡ y
some_is r x y e f = cc

pub small_keep : (places keep : ℕ) → keep ≤ scale places → keep ≤ most places
small_keep places keep small = omega (arith, small, scale-most places)

pub without_cons : (d b : ℕ) (bs : List ℕ) → d < b → IsWithout d bs → IsWithout d (b ∷ bs)
without_cons d b bs l p = ap (λ (t : Bool). cond t false (is_without d bs)) (differs b d l) ∙ p
