-- The text of an amount says it.
use Rattle.std.proofs.Common.{◌≡◌, ◌∙◌, refl, sym, ap, ℕ, ◌+◌, ◌*◌, ◌/◌, ◌%◌, ◌^◌, ◌<◌, ◌≤◌, zero, suc, List}
use Rattle.std.proofs.Common.{[], ◌∷◌, ◌++◌, length, arith, length-append, pow-suc}
use Rattle.std.specs.Prelude.{decimal}
use Rattle.std.proofs.lemmas.Fmt.{decimal_injective}
use Rattle.std.proofs.lemmas.Nat.{div-add-mod'}
use Rattle.std.proofs.Math.Nat.{div-le_of_le-mul, mod-lt}
use Rattle.fixed_place.specs.Rounding.{scale, most}
use Rattle.fixed_place.proofs.RoundingLemmas.{most_votes, scale_pos}
use Rattle.fixed_place.specs.Text.{text_of, last_digits}

pub heads : {A : Type 0} (a b : A) (xs ys : List A) → a ∷ xs ≡ b ∷ ys → (a ≡ b) × (xs ≡ ys)
heads a b xs ys e = (cc, cc)

-- fronts of the same length are cut off in one way
fronts : (xs ys rest others : List ℕ) → length xs ≡ length ys → xs ++ rest ≡ ys ++ others → (xs ≡ ys) × (rest ≡ others)
fronts [] [] rest others long e = (refl, e)
fronts [] (y ∷ ys) rest others long e = absurd (omega (arith, long))
fronts (x ∷ xs) [] rest others long e = absurd (omega (arith, long))
fronts (x ∷ xs) (y ∷ ys) rest others long e =
    let first = heads x y (xs ++ rest) (ys ++ others) e in
    let more = fronts xs ys rest others (omega (arith, long)) first.1 in
    ((λ i. first.0 i ∷ more.0 i), more.1)

length-digits : (k n : ℕ) → length (last_digits k n) ≡ k
unfolding last_digits
length-digits zero n = refl
length-digits (suc k) n =
    length-append (last_digits k (n / 10)) ((48 + n % 10) ∷ []) ∙ omega (arith, length-digits k (n / 10))

digits_say : (k n m : ℕ) → n < 10 ^ k → m < 10 ^ k → last_digits k n ≡ last_digits k m → n ≡ m
unfolding last_digits
digits_say zero n m below small e = omega (arith, below, small)
digits_say (suc k) n m below small e =
    let parts =
    fronts (last_digits k (n / 10)) (last_digits k (m / 10)) ((48 + n % 10) ∷ []) ((48 + m % 10) ∷ [])
    (length-digits k (n / 10) ∙ sym (length-digits k (m / 10))) e in
    let last = heads (48 + n % 10) (48 + m % 10) [] [] parts.1 in
    let others =
    digits_say k (n / 10) (m / 10) (omega (arith, pow-suc 10 k, below))
    (omega (arith, pow-suc 10 k, small)) parts.0 in
    omega (arith, last.0, others)

pub votes_small : (places u : ℕ) → u ≤ most places → u / scale places ≤ 1000000000
votes_small places u small = div-le_of_le-mul (scale places) (omega (arith, most_votes places, small))

-- no two amounts are written alike
pub amounts_say : (places u w : ℕ) → u ≤ most places → w ≤ most places → text_of places u ≡ text_of places w → u ≡ w
unfolding text_of
amounts_say places u w small few e =
    let s = scale places in
    let digits = last_digits places (u % s) in
    let others = last_digits places (w % s) in
    let long : length (decimal (u / s)) ≡ length (decimal (w / s)) =
    omega (
      arith,
      ap (λ (t : List ℕ). length t) e,
      length-append (decimal (u / s)) (46 ∷ digits),
      length-append (decimal (w / s)) (46 ∷ others),
      length-digits places (u % s),
      length-digits places (w % s),
    ) in
    let parts = fronts (decimal (u / s)) (decimal (w / s)) (46 ∷ digits) (46 ∷ others) long e in
    let whole =
    decimal_injective (u / s) (w / s) (omega (arith, votes_small places u small))
    (omega (arith, votes_small places w few)) parts.0 in
    let rest =
    digits_say places (u % s) (w % s) (mod-lt u (scale_pos places)) (mod-lt w (scale_pos places))
    (heads 46 46 digits others parts.1).1 in
    sym (div-add-mod' u s) ∙ (λ i. whole i * s + rest i) ∙ div-add-mod' w s
