-- Pieces in another order, joined, have the same elements in another order.
use Rattle.std.proofs.Common.{◌≡◌, ℕ, ◌<◌, List, [], ◌∷◌, ◌++◌, length, get_or, set, append_assoc, arith, sym}
use Rattle.std.proofs.Common.{subst, zero, suc}
use Rattle.std.specs.List.{flat_map, swap}
use Rattle.std.specs.List.Sorted.{IsPermutation}
use Rattle.std.proofs.lemmas.List.{get_or_default}
use Rattle.std.proofs.lemmas.List.Sorted.{IsPermutation-refl, IsPermutation-trans, IsPermutation-keeps}
use Rattle.std.proofs.lemmas.List.Sorted.{IsPermutation-append_left, IsPermutation-append_right}
use Rattle.std.proofs.lemmas.List.Sorted.{IsPermutation-append_comm}

-- the second part may come first
pub IsPermutation-shift : {X : Type 0} (xs ys zs : List X) → IsPermutation (xs ++ (ys ++ zs)) (ys ++ (xs ++ zs))
IsPermutation-shift {X} xs ys zs =
    subst (λ (l : List X). IsPermutation l (ys ++ (xs ++ zs))) (append_assoc xs ys zs)
    (subst (λ (r : List X). IsPermutation ((xs ++ ys) ++ zs) r) (append_assoc ys xs zs)
    (IsPermutation-append_left zs (xs ++ ys) (ys ++ xs) (IsPermutation-append_comm xs ys)))

-- x's piece comes in for the k-th one, y's, which comes out in front
one_replaced :
    {X Y : Type 0} (f : X → List Y) (xs : List X) (k : ℕ) (x y : X) → k < length xs → get_or xs k y ≡ y
    → IsPermutation (f x ++ flat_map f xs) (f y ++ flat_map f (set xs k x))
one_replaced f [] k x y below is = absurd (omega arith)
one_replaced {X} f (e ∷ xs) zero x y below is =
    subst (λ (z : X). IsPermutation (f x ++ (f e ++ flat_map f xs)) (f z ++ (f x ++ flat_map f xs))) is
    (IsPermutation-shift (f x) (f e) (flat_map f xs))
one_replaced f (e ∷ xs) (suc k) x y below is =
    let rest = one_replaced f xs k x y (omega arith) is in
    IsPermutation-trans _ _ _ (IsPermutation-shift (f x) (f e) (flat_map f xs))
    (IsPermutation-trans _ _ _ (IsPermutation-append_right (f e) _ _ rest)
    (IsPermutation-shift (f e) (f y) (flat_map f (set xs k x))))

-- the pieces of x and y, the i-th and the j-th, in each other's place
two_exchanged :
    {X Y : Type 0} (f : X → List Y) (xs : List X) (i j : ℕ) (x y : X) → i < length xs → j < length xs
    → get_or xs i x ≡ x → get_or xs j y ≡ y
    → IsPermutation (flat_map f xs) (flat_map f (set (set xs i y) j x))
two_exchanged f [] i j x y here there is_x is_y = absurd (omega arith)
two_exchanged {X} f (e ∷ xs) zero zero x y here there is_x is_y =
    subst (λ (z : X). IsPermutation (f e ++ flat_map f xs) (f z ++ flat_map f xs)) is_x
    (IsPermutation-refl (f e ++ flat_map f xs))
two_exchanged {X} f (e ∷ xs) zero (suc j) x y here there is_x is_y =
    subst (λ (z : X). IsPermutation (f z ++ flat_map f xs) (f y ++ flat_map f (set xs j x))) (sym is_x)
    (one_replaced f xs j x y (omega arith) is_y)
two_exchanged {X} f (e ∷ xs) (suc i) zero x y here there is_x is_y =
    subst (λ (z : X). IsPermutation (f z ++ flat_map f xs) (f x ++ flat_map f (set xs i y))) (sym is_y)
    (one_replaced f xs i y x (omega arith) is_x)
two_exchanged f (e ∷ xs) (suc i) (suc j) x y here there is_x is_y =
    IsPermutation-append_right (f e) _ _ (two_exchanged f xs i j x y (omega arith) (omega arith) is_x is_y)

swapped :
    {X Y : Type 0} (f : X → List Y) (xs : List X) (i j : ℕ) → i < length xs → j < length xs
    → IsPermutation (flat_map f xs) (flat_map f (swap xs i j))
swapped f [] i j here there = absurd (omega arith)
swapped f (d ∷ xs) i j here there =
    let x = get_or (d ∷ xs) i d in
    let y = get_or (d ∷ xs) j d in
    two_exchanged f (d ∷ xs) i j x y here there (get_or_default (d ∷ xs) i x d here) (get_or_default (d ∷ xs) j y d there)

pub flat_map-IsPermutation :
    {X Y : Type 0} (f : X → List Y) (xs ys : List X) → IsPermutation xs ys
    → IsPermutation (flat_map f xs) (flat_map f ys)
flat_map-IsPermutation f xs ys same =
    IsPermutation-keeps xs (λ l. IsPermutation (flat_map f xs) (flat_map f l)) (IsPermutation-refl (flat_map f xs))
    (λ l i j here there so_far. IsPermutation-trans _ _ _ so_far (swapped f l i j here there)) ys same
