-- Which element is at a place of a list.
use Rattle.std.proofs.Common.{◌≡◌, ◌≢◌, ◌⊎◌, ℕ, zero, suc, ◌<◌, List, [], ◌∷◌, ◌++◌, length, set, refl, sym}
use Rattle.std.proofs.Common.{ap, ◌∙◌, subst, inl, inr, ⊎_elim, arith}
use mathlib.Core.Option.{some, some-injective, some-ne-none}
use lib.ListN.{get_elem?}
use Rattle.atomic_table.proofs.Lists.{at_set}

module _ {A : Type 0} where
  pub at_lt : (l : List A) (i : ℕ) (a : A) → get_elem? l i ≡ some a → i < length l
  at_lt [] i a e = absurd (some-ne-none a (sym e))
  at_lt (x ∷ xs) zero a e = omega arith
  at_lt (x ∷ xs) (suc i) a e = let r = at_lt xs i a e in omega arith

  pub at_same : (l : List A) (i : ℕ) (a b : A) → get_elem? l i ≡ some a → get_elem? l i ≡ some b → a ≡ b
  at_same l i a b e f = some-injective a b (sym e ∙ f)

  pub at_place : (l : List A) (i j : ℕ) (a : A) → i ≡ j → get_elem? l i ≡ some a → get_elem? l j ≡ some a
  at_place l i j a e h = subst (λ k. get_elem? l k ≡ some a) e h

  -- where an element of a list with one more at its end is
  at_end :
      (l : List A) (a b : A) (j : ℕ) → get_elem? (l ++ a ∷ []) j ≡ some b
      → (get_elem? l j ≡ some b) ⊎ ((j ≡ length l) × (a ≡ b))
  at_end [] a b zero e = inr (refl, some-injective a b e)
  at_end [] a b (suc j) e = absurd (some-ne-none b (sym e))
  at_end (x ∷ xs) a b zero e = inl e
  at_end (x ∷ xs) a b (suc j) e = ⊎_elim (λ t. inl t) (λ t. inr (ap suc t.0, t.1)) (at_end xs a b j e)

  -- what holds at the place that was set and at each other one holds at all
  pub at_changed :
      (P : ℕ → A → Type 0) (l : List A) (i : ℕ) (a : A) → P i a
      → ((k : ℕ) (b : A) → k ≢ i → get_elem? l k ≡ some b → P k b)
      → (k : ℕ) (b : A) → get_elem? (set l i a) k ≡ some b → P k b
  at_changed P l i a here there k b e = ⊎_elim
      (λ (x : (k ≡ i) × (a ≡ b)). subst (λ j. P j b) (sym x.0) (subst (P i) x.1 here))
      (λ (x : (k ≢ i) × (get_elem? l k ≡ some b)). there k b x.0 x.1)
      (at_set l i k a b e)

  -- what holds of each element and of one more at the end holds of all
  pub at_added :
      (P : ℕ → A → Type 0) (l : List A) (a : A) → P (length l) a
      → ((k : ℕ) (b : A) → get_elem? l k ≡ some b → P k b)
      → (k : ℕ) (b : A) → get_elem? (l ++ a ∷ []) k ≡ some b → P k b
  at_added P l a here there k b e = ⊎_elim
      (λ (x : get_elem? l k ≡ some b). there k b x)
      (λ (x : (k ≡ length l) × (a ≡ b)). subst (λ j. P j b) (sym x.0) (subst (P (length l)) x.1 here))
      (at_end l a b k e)
