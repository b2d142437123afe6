-- Tests and lists of numbers that follow one another.
use Rattle.std.proofs.Common.{◌≡◌, ◌≢◌, ℕ, zero, suc, ◌+◌, ◌-◌, ◌<◌, ◌≤◌, Bool, true, false, ◌||◌, ap, sym, refl, ◌∙◌, arith}
use Rattle.std.proofs.Common.{[], ◌∷◌, ◌++◌, map}
use Rattle.std.specs.List.{list_any, range_with_len}
use Rattle.std.proofs.lemmas.List.FromFn.{map-range_with_len_more}

first : (b : Bool) → (b || false) ≡ b
first true = refl
first false = refl

module _ (p : ℕ → Bool) where
  next : (a c : ℕ) → a ≤ c → p c ≡ true → p a ≡ false → a + 1 ≤ c
  next a c low is fails =
      let differ : a ≢ c = λ same. (let both = ap p same in cc) in
      omega arith

  -- one of some numbers passes
  any_in : (n a c : ℕ) → a ≤ c → c < a + n → p c ≡ true → list_any p (range_with_len a n) ≡ true
  any_in zero a c low high is = absurd (omega arith)
  any_in (suc n) a c low high is =
      (elim (p a) as (λ t. p a ≡ t → (t || list_any p (range_with_len (a + 1) n)) ≡ true) [
        | true ↦ λ passes. refl
        | false ↦ λ fails. any_in n (a + 1) c (next a c low is fails) (omega arith) is
      ]) refl

  -- one more number
  any_more : (n a : ℕ) → list_any p (range_with_len a (suc n)) ≡ (list_any p (range_with_len a n) || p (a + n))
  any_more zero a = first (p a) ∙ ap p (omega arith)
  any_more (suc n) a =
      elim (p a) as (λ b. (b || list_any p (range_with_len (a + 1) (suc n)))
      ≡ ((b || list_any p (range_with_len (a + 1) n)) || p (a + suc n))) [
        | true ↦ refl
        | false ↦ any_more n (a + 1) ∙ ap (λ k. list_any p (range_with_len (a + 1) n) || p k) (omega arith)
      ]

  pub one_passes : (n c : ℕ) → 1 ≤ c → c ≤ n → p c ≡ true → list_any p (range_with_len 1 n) ≡ true
  one_passes n c low high is = any_in n 1 c low (omega arith) is

  pub none_passes : (c : ℕ) → 1 ≤ c → list_any p (range_with_len 1 (c - 1)) ≡ false → p c ≡ false
      → list_any p (range_with_len 1 (c + 1 - 1)) ≡ false
  none_passes c low none fails =
      let same : c + 1 - 1 ≡ suc (c - 1) = omega arith in
      let last : 1 + (c - 1) ≡ c = omega arith in
      ap (λ n. list_any p (range_with_len 1 n)) same ∙ any_more (c - 1) 1
      ∙ ap (λ b. b || p (1 + (c - 1))) none ∙ ap p last ∙ fails

pub one_mapped : {X : Type 0} (f : ℕ → X) (c : ℕ) → 1 ≤ c
    → map f (range_with_len 1 (c - 1)) ++ f c ∷ [] ≡ map f (range_with_len 1 (c + 1 - 1))
one_mapped f c low =
    let same : c - 1 + 1 ≡ c + 1 - 1 = omega arith in
    sym (map-range_with_len_more f 1 (c - 1) c (omega arith)) ∙ ap (λ n. map f (range_with_len 1 n)) same
