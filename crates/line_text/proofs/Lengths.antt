-- How long the text of a number is at most.
use Rattle.std.proofs.Common.{◌≡◌, ℕ, ◌*◌, ◌/◌, ◌%◌, ◌^◌, ◌<◌, ◌≤◌, ◌∷◌, length, arith, length-append}
use Rattle.std.specs.Prelude.{decimal}
use Rattle.std.proofs.lemmas.Fmt.{length-decimal-le}
use Rattle.std.proofs.lemmas.Nat.{pow-add}
use Rattle.std.proofs.Math.Nat.{div-le_of_le-mul}
use Rattle.fixed_place.specs.Rounding.{scale, most}
use Rattle.fixed_place.specs.Text.{text_of, last_digits}
use Rattle.line_text.proofs.Digits.{length-last_digits}

-- a whole number has at most 20 digits
pub length-count : (n : ℕ) → n < 2 ^ 64 → length (decimal n) ≤ 20
length-count n fits = length-decimal-le 20 n (omega arith) (omega arith) fits

-- a number of candidates has at most 3 digits
pub length-candidate : (n : ℕ) → n ≤ 250 → length (decimal n) ≤ 3
length-candidate n few = length-decimal-le 3 n (omega arith) (omega arith) (omega arith)

-- an amount or a keep value has at most 10 digits before the point, and as many after it as there are places
pub length-text_of : (places units : ℕ) → places ≤ 9 → units ≤ most places → length (text_of places units) ≤ 20
unfolding text_of
length-text_of places units few small =
    let p = scale places in
    let votes : most places ≡ p * 1000000000 = pow-add 10 places 9 in
    let whole : units / p ≤ 1000000000 = div-le_of_le-mul p (omega (arith, votes, small)) in
    let digits : length (decimal (units / p)) ≤ 10 =
    length-decimal-le 10 (units / p) (omega arith) (omega (arith, whole)) (omega (arith, whole)) in
    omega (
      arith,
      digits,
      length-last_digits places (units % p),
      length-append (decimal (units / p)) (46 ∷ last_digits places (units % p)),
    )

-- a keep value is an amount
pub scale-most : (places : ℕ) → scale places ≤ most places
scale-most places = omega (arith, pow-add 10 places 9)

pub ruleset lengths = (length-count, length-candidate, length-text_of, scale-most)
