-- A line for the first of a list that passes a test.
use Rattle.std.proofs.Common.{◌≡◌, ◌∙◌, ℕ, suc, ◌+◌, ◌-◌, ◌<◌, ◌≤◌, Bool, true, false, cond, List, [], ◌∷◌, take}
use Rattle.std.proofs.Common.{ap, append-nil, arith, refl, sym, inl, inr}
use Rattle.std.specs.List.{filter, flat_map, list_any, range_with_len}
use Rattle.std.proofs.lemmas.Bool.{cases_Bool, or_from, or_parts}

module _ {X : Type 0} (test : X → Bool) (line : X → List ℕ) where
  abbrev pub first_line : List X → List ℕ
  first_line xs = flat_map line (take 1 (filter test xs))

  pub first_here : (x : X) (xs : List X) → test x ≡ true → first_line (x ∷ xs) ≡ line x
  first_here x xs is =
      ap (λ (b : Bool). flat_map line (take 1 (cond b (x ∷ filter test xs) (filter test xs)))) is ∙ append-nil (line x)

  pub first_past : (x : X) (xs : List X) → test x ≡ false → first_line (x ∷ xs) ≡ first_line xs
  first_past x xs is = ap (λ (b : Bool). flat_map line (take 1 (cond b (x ∷ filter test xs) (filter test xs)))) is

  pub none_first : (xs : List X) → list_any test xs ≡ false → first_line xs ≡ []
  none_first [] none = refl
  none_first (x ∷ xs) none =
      let parts = or_parts (test x) (list_any test xs) none in
      first_past x xs parts.0 ∙ none_first xs parts.1

  pub first_none : ((x : X) → line x ≡ [] → ⊥) → (xs : List X) → first_line xs ≡ [] → list_any test xs ≡ false
  first_none some [] none = refl
  first_none some (x ∷ xs) none =
      elim (cases_Bool (test x)) [
        | inl is ↦ absurd (some x (sym (first_here x xs is) ∙ none))
        | inr past ↦ or_from (test x) (list_any test xs) past (first_none some xs (sym (first_past x xs past) ∙ none))
      ]

-- the numbers from one on, up to another
pub range_front : (p n : ℕ) → p < n → range_with_len p (n - p) ≡ p ∷ range_with_len (p + 1) (n - (p + 1))
range_front p n inside = ap (range_with_len p) (let e : n - p ≡ suc (n - (p + 1)) = omega (arith, inside) in e)

pub range_none : (p n : ℕ) → n ≤ p → range_with_len p (n - p) ≡ []
range_none p n past = ap (range_with_len p) (let e : n - p ≡ 0 = omega (arith, past) in e)
