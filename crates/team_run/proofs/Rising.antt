-- Rising lists of numbers, and where one is within another.
use Rattle.std.proofs.Common.{◌≡◌, ◌⊎◌, ℕ, ◌+◌, ◌≤◌, List}
use Rattle.std.proofs.Common.{[], ◌∷◌, length, ⊎_elim, refl}
use Rattle.std.proofs.Common.{subst, arith}
use Rattle.std.specs.Prelude.{⊤}

-- numbers that rise, the first of them at least n
abbrev pub Rise : (n : ℕ) → List ℕ → Type 0
Rise n [] = ⊤
Rise n (x ∷ xs) = (n ≤ x) × Rise (x + 1) xs

abbrev pub StandsAmong : List ℕ → ℕ → Type 0
StandsAmong [] x = ⊥
StandsAmong (y ∷ ys) x = (x ≡ y) ⊎ StandsAmong ys x

abbrev pub StandAmong : List ℕ → List ℕ → Type 0
StandAmong ys [] = ⊤
StandAmong ys (x ∷ xs) = StandsAmong ys x × StandAmong ys xs

pub above : (n : ℕ) (ys : List ℕ) (x : ℕ) → Rise n ys → StandsAmong ys x → n ≤ x
above n [] x rise in' = absurd in'
above n (y ∷ ys) x rise in' =
    ⊎_elim (λ (e : x ≡ y). (let a = rise.0 in omega (arith, a, e))) (λ (later : StandsAmong ys x).
    (let a = rise.0 in let b = above (y + 1) ys x rise.1 later in omega (arith, a, b))) in'

pub lower : (n m : ℕ) (xs : List ℕ) → n ≤ m → Rise m xs → Rise n xs
lower n m [] less rise = tt
lower n m (z ∷ zs) less rise = ((let a = rise.0 in omega (arith, a, less)), rise.1)

-- what is in a list and is above its first is in its rest
behind : (y : ℕ) (ys xs : List ℕ) → Rise (y + 1) xs → StandAmong (y ∷ ys) xs → StandAmong ys xs
behind y ys [] rise in' = tt
behind y ys (x ∷ xs) rise in' = (
  ⊎_elim (λ (e : x ≡ y). absurd (let a = rise.0 in omega (arith, a, e))) (λ (later : StandsAmong ys x). later) in'.0,
  behind y ys xs (lower (y + 1) (x + 1) xs (let a = rise.0 in omega (arith, a)) rise.1) in'.1,
)

-- a rising list within a rising list of the same length is that list
pub within :
    (n : ℕ) (ys xs : List ℕ) → Rise n xs → Rise n ys → StandAmong ys xs
    → (length xs ≤ length ys) × (length xs ≡ length ys → xs ≡ ys)
within n [] [] one other in' = (omega arith, λ same. refl)
within n [] (x ∷ xs) one other in' = absurd in'.0
within n (y ∷ ys) [] one other in' = (omega arith, λ same. absurd (omega (arith, same)))
within n (y ∷ ys) (x ∷ xs) one other in' =
    ⊎_elim
    (λ (e : x ≡ y).
    let rise : Rise (y + 1) xs = subst (λ (z : ℕ). Rise (z + 1) xs) e one.1 in
    let rest = within (y + 1) ys xs rise other.1 (behind y ys xs rise in'.1) in
    ((let le = rest.0 in omega (arith, le)), λ same. (let equal = rest.1 (omega (arith, same)) in λ i. e i ∷ equal i)))
    (λ (later : StandsAmong ys x).
    let less = above (y + 1) ys x other.1 later in
    let rise : Rise (y + 1) (x ∷ xs) = (less, one.1) in
    let rest = within (y + 1) ys (x ∷ xs) rise other.1 (behind y ys (x ∷ xs) rise in') in
    ((let le = rest.0 in omega (arith, le)), λ same. absurd (let le = rest.0 in omega (arith, le, same))))
    in'.0
