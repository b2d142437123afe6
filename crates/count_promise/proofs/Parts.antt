-- The text of a part of a vote.
use Rattle.std.proofs.Common.{◌≡◌, ◌∙◌, ℕ, ◌/◌, ◌%◌, ◌^◌, ◌<◌, List, [], ◌∷◌, ◌++◌, ap, arith}
use Rattle.std.specs.Prelude.{decimal}
use Rattle.std.proofs.lemmas.Fmt.{decimal_digit}
use Rattle.fixed_place.specs.Rounding.{scale}
use Rattle.fixed_place.specs.Text.{text_of, last_digits}

whole_part : (units : ℕ) → units < 10 ^ 9 → decimal (units / scale 9) ≡ 48 ∷ []
whole_part units small =
    let none : units / scale 9 ≡ 0 = omega arith in
    ap (λ (k : ℕ). decimal k) none ∙ decimal_digit 0 (omega arith)

-- a zero, the point, and the digits of the part
pub part_text : (units : ℕ) → units < 10 ^ 9 → text_of 9 units ≡ 48 ∷ 46 ∷ last_digits 9 units
unfolding text_of
part_text units small =
    let rest : units % scale 9 ≡ units = omega arith in
    ap (λ (l : List ℕ). l ++ 46 ∷ last_digits 9 (units % scale 9)) (whole_part units small)
    ∙ ap (λ (k : ℕ). 48 ∷ 46 ∷ last_digits 9 k) rest
