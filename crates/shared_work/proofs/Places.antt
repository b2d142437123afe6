-- What is made at places from 0 on.
use Rattle.std.proofs.Common.{◌≡◌, ℕ, zero, suc, ◌<◌, List, [], ◌∷◌, length, All, get_or, refl, sym, subst, ap, ◌∙◌, arith}
use Rattle.std.specs.List.{AllZip, range_with_len}
use Rattle.std.proofs.lemmas.List.FromFn.{length-range_with_len, get_or-range_with_len}

place_at : (n i d : ℕ) → i < n → get_or (range_with_len 0 n) i d ≡ i
place_at n i d inside = get_or-range_with_len 0 n i d inside ∙ omega arith

-- what holds of each place holds of their list
pub at_places :
    (P : ℕ → Type 0) (n : ℕ) → ((i : ℕ) → i < n → P i) → (numbers : List ℕ) → numbers ≡ range_with_len 0 n
    → All P numbers
at_places P n each numbers is = subst (All P) (sym is) (λ i d inside.
    let below : i < n = omega (arith, inside, length-range_with_len 0 n) in
    subst P (sym (place_at n i d below)) (each i below))

module _ {W X : Type 0} (R : W → X → Type 0) where
  zip_length : (ws : List W) (xs : List X) → AllZip R ws xs → length xs ≡ length ws
  zip_length [] [] zip = refl
  zip_length [] (x ∷ xs) zip = absurd zip
  zip_length (w ∷ ws) [] zip = absurd zip
  zip_length (w ∷ ws) (x ∷ xs) (here, rest) = ap suc (zip_length ws xs rest)

  zip_at :
      (ws : List W) (xs : List X) → AllZip R ws xs → (i : ℕ) (e : W) (d : X) → i < length ws
      → R (get_or ws i e) (get_or xs i d)
  zip_at [] xs zip i e d inside = absurd (omega (arith, inside))
  zip_at (w ∷ ws) [] zip i e d inside = absurd zip
  zip_at (w ∷ ws) (x ∷ xs) (here, rest) zero e d inside = here
  zip_at (w ∷ ws) (x ∷ xs) (here, rest) (suc i) e d inside = zip_at ws xs rest i e d (omega (arith, inside))

-- one is made at each place
pub made_at :
    {X : Type 0} (R : ℕ → X → Type 0) (n : ℕ) (numbers : List ℕ) (made : List X) → numbers ≡ range_with_len 0 n
    → AllZip R numbers made → (i : ℕ) (d : X) → i < n → R i (get_or made i d)
made_at R n numbers made is zip i d inside =
    subst (λ (k : ℕ). R k (get_or made i d)) (place_at n i 0 inside)
    (zip_at R (range_with_len 0 n) made (subst (λ (l : List ℕ). AllZip R l made) is zip) i 0 d
    (omega (arith, inside, length-range_with_len 0 n)))

pub as_many :
    {X : Type 0} (R : ℕ → X → Type 0) (n : ℕ) (numbers : List ℕ) (made : List X) → numbers ≡ range_with_len 0 n
    → AllZip R numbers made → length made ≡ n
as_many R n numbers made is zip =
    zip_length R numbers made zip ∙ (ap length is ∙ length-range_with_len 0 n)
