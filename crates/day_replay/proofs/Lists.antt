-- Lists, by their fronts.
use Rattle.std.proofs.Common.{◌≡◌, ℕ, zero, suc, ◌<◌, List, [], ◌∷◌, ◌++◌, length, take, drop}
use Rattle.std.proofs.Common.{refl, sym, ap, ◌∙◌, arith}
use Rattle.std.specs.Prelude.{slice_get, Option, Some, unwrap_or}

module _ {X : Type 0} where
  pub inside : (xs : List X) (n : ℕ) (x : X) → slice_get xs n ≡ Some x → n < length xs
  inside [] n x at = absurd (cc)
  inside (y ∷ ys) zero x at = omega arith
  inside (y ∷ ys) (suc n) x at = let here = inside ys n x at in omega (arith, here)

  -- a list is what is before one of its items, the item, and what is after it
  pub parted : (xs : List X) (n : ℕ) (x : X) → slice_get xs n ≡ Some x → xs ≡ take n xs ++ x ∷ drop (suc n) xs
  parted [] n x at = absurd (cc)
  parted (y ∷ ys) zero x at = ap (λ (o : Option X). unwrap_or o x ∷ ys) at
  parted (y ∷ ys) (suc n) x at = ap (λ (l : List X). y ∷ l) (parted ys n x at)

  pub got_behind : (xs : List X) (x : X) (ys : List X) → slice_get (xs ++ x ∷ ys) (length xs) ≡ Some x
  got_behind [] x ys = refl
  got_behind (z ∷ xs) x ys = got_behind xs x ys

  pub got_ahead : (xs ys : List X) (n : ℕ) → n < length xs → slice_get (xs ++ ys) n ≡ slice_get xs n
  got_ahead [] ys n below = absurd (omega (arith, below))
  got_ahead (z ∷ xs) ys zero below = refl
  got_ahead (z ∷ xs) ys (suc n) below = got_ahead xs ys n (omega (arith, below))

  -- fronts that are the same stay so by one item that both lists have
  pub same_fronts :
      (xs ys : List X) (n : ℕ) (x : X) → take n xs ≡ take n ys → slice_get xs n ≡ Some x → slice_get ys n ≡ Some x
      → take (suc n) xs ≡ take (suc n) ys
  same_fronts [] ys n x same at other = absurd (cc)
  same_fronts (a ∷ xs) [] n x same at other = absurd (cc)
  same_fronts (a ∷ xs) (b ∷ ys) zero x same at other = ap (λ (o : Option X). unwrap_or o x ∷ []) (at ∙ sym other)
  same_fronts (a ∷ xs) (b ∷ ys) (suc n) x same at other =
      let heads : Some a ≡ Some b = ap (λ (l : List X). slice_get l 0) same in
      let tails : take n xs ≡ take n ys = ap (drop 1) same in
      λ i. unwrap_or (heads i) a ∷ same_fronts xs ys n x tails at other i
