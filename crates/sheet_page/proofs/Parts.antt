-- The text of a part of a vote.
use Rattle.std.proofs.Common.{◌≡◌, ◌∙◌, ℕ, ◌+◌, ◌/◌, ◌%◌, ◌^◌, ◌<◌, ◌≤◌, ◌∷◌, ◌++◌, ap, sym, subst, arith, lit<}
use Rattle.std.specs.Prelude.{decimal}
use Rattle.std.proofs.Math.Nat.{div-eq_of_lt, div-le_of_le-mul, mod-eq_of_lt, pow-le-pow_right}
use Rattle.std.proofs.lemmas.Nat.{pow-add}
use Rattle.std.proofs.lemmas.Fmt.{decimal_digit}
use Rattle.fixed_place.specs.Rounding.{scale}
use Rattle.fixed_place.specs.Text.{text_of, last_digits}

-- a zero, the point, and the digits
pub part_text : (places units : ℕ) → units < scale places → text_of places units ≡ 48 ∷ 46 ∷ last_digits places units
unfolding text_of
part_text places units small =
    let none : units / scale places ≡ 0 = div-eq_of_lt small in
    let rest : units % scale places ≡ units = mod-eq_of_lt small in
    ap (λ k. decimal k ++ 46 ∷ last_digits places (units % scale places)) none
    ∙ ap (λ l. l ++ 46 ∷ last_digits places (units % scale places)) (decimal_digit 0 (omega arith))
    ∙ ap (λ k. 48 ∷ 46 ∷ last_digits places k) rest

-- the whole votes of an amount that may be more than any vote
pub votes_few : (places units s : ℕ) → s ≡ scale places → units < 10 ^ (places + 18) → units / s ≤ 1000000000000000000
votes_few places units s is small =
    subst (λ (k : ℕ). units / k ≤ 1000000000000000000) (sym is)
    (div-le_of_le-mul (scale places) (omega (arith, pow-add 10 places 18, small)))

-- there is room for so many units
pub room : (places units : ℕ) → 6 ≤ places → units < 10 ^ 24 → units < 10 ^ (places + 18)
room places units from few =
    let more : 10 ^ 24 ≤ 10 ^ (places + 18) = pow-le-pow_right (lit< tt) {i = 24} {j = places + 18} (omega arith) in
    omega (arith, few, more)
