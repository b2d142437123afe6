use Rattle.std.proofs.Common.{◌≡◌, ◌∙◌, refl, ap, subst, arith, length, List, ℕ, [], ◌∷◌}
use Rattle.std.specs.Prelude.{codes, decimal}
use Rattle.std.specs.Fmt.{digits}
use Rattle.sheet_page.specs.JsonGrammar.{Whole, IsTextOf, closed}
use Rattle.sheet_page.specs.JsonValues.{array}
use Rattle.sheet_page.proofs.worked.worked_texts.Goals as goal

ten : codes "10" ≡ decimal 10
unfolding digits
ten = refl

one : decimal 1 ≡ codes "1"
unfolding digits
one = refl

-- the one piece is the number, and a comma is too many
one_too_many : IsTextOf (array (Whole 1 ∷ [])) (codes "[1,]") → ⊥
one_too_many (([]), is, items) = items
one_too_many ((piece ∷ []), is, items) =
    let all = subst (λ (l : List ℕ). codes "[1,]" ≡ 91 ∷ closed (l ∷ []) 93) (items.0.1 ∙ one) is in
    omega (arith, ap (λ (l : List ℕ). length l) all)
one_too_many ((piece ∷ other ∷ others), is, items) = cc

pub returns : goal.returns
returns c = record {
  whole = (
    (codes "\"list\":[10,false,[]]" ∷ codes "\"marks\":\"\\\"\\\\\\/\"" ∷ []),
    refl,
    (
      (
        codes "\"list\"",
        codes "[10,false,[]]",
        refl,
        refl,
        (
          (codes "10" ∷ codes "false" ∷ codes "[]" ∷ []),
          refl,
          ((omega arith, ten), (refl, (([], refl, refl), refl))),
        ),
      ),
      ((codes "\"marks\"", codes "\"\\\"\\\\\\/\"", refl, refl, refl), refl),
    ),
  );
  no_comma_at_the_end = one_too_many;
  no_zero_before = λ is. omega (arith, ap (λ (l : List ℕ). length l) (is.1 ∙ one));
}
