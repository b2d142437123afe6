-- Where an iteration ends in the records of a table.
use Rattle.std.proofs.Common.{◌≡◌, ◌∙◌, refl, sym, ap, subst, ℕ, ◌+◌, ◌≤◌, zero, suc, List, [], ◌∷◌, ◌++◌}
use Rattle.std.proofs.Common.{get_or, map, arith}
use Rattle.std.specs.Prelude.{decimal}
use Rattle.std.specs.List.{range_with_len}
use Rattle.std.proofs.lemmas.Fmt.{decimal_injective}
use Rattle.sheet_page.specs.Values.{all_places}
use Rattle.sheet_page.proofs.AmountTexts.{heads}

-- the field at a place
abbrev pub field : (k : ℕ) → List (List ℕ) → List ℕ
field k fields = get_or fields k []

-- These records begin with one of candidate 1, if there is one.
abbrev pub IsFresh : List (List (List ℕ)) → Type 0
IsFresh [] = Unit {0}
IsFresh (fields ∷ records) = field 2 fields ≡ decimal 1

-- The record at each place is of the candidate there.
abbrev pub IsNumbered : (ℕ → List (List ℕ)) → Type 0
IsNumbered f = (p : ℕ) → field 2 (f p) ≡ decimal (p + 1)

not_first : (f : ℕ → List (List ℕ)) (k : ℕ) → IsNumbered f → 1 ≤ k → k ≤ 250 → field 2 (f k) ≡ decimal 1 → ⊥
not_first f k numbered some few first =
    let one = decimal_injective (k + 1) 1 (omega (arith, few)) (omega arith) (sym (numbered k) ∙ first) in
    omega (arith, one, some)

-- two runs of records from the same place on
same_runs : (f g : ℕ → List (List ℕ)) (k n m : ℕ) (rest others : List (List (List ℕ))) → IsNumbered f → IsNumbered g
    → 1 ≤ k → k + n ≤ 250 → k + m ≤ 250 → IsFresh rest → IsFresh others
    → map f (range_with_len k n) ++ rest ≡ map g (range_with_len k m) ++ others
    → (n ≡ m) × (map f (range_with_len k n) ≡ map g (range_with_len k m)) × (rest ≡ others)
same_runs f g k zero zero rest others nf ng some few small fresh also e = (refl, refl, e)
same_runs f g k zero (suc m) rest others nf ng some few small fresh also e =
    absurd (not_first g k ng some (omega (arith, small)) (subst IsFresh e fresh))
same_runs f g k (suc n) zero rest others nf ng some few small fresh also e =
    absurd (not_first f k nf some (omega (arith, few)) (subst IsFresh (sym e) also))
same_runs f g k (suc n) (suc m) rest others nf ng some few small fresh also e =
    let first =
    heads (f k) (g k) (map f (range_with_len (k + 1) n) ++ rest)
    (map g (range_with_len (k + 1) m) ++ others) e in
    let more =
    same_runs f g (k + 1) n m rest others nf ng (omega arith) (omega (arith, few)) (omega (arith, small))
    fresh also first.1 in
    (ap suc more.0, (λ i. first.0 i ∷ more.1 i), more.2)

-- two iterations with what is after them
pub same_iterations : (f g : ℕ → List (List ℕ)) (n m : ℕ) (rest others : List (List (List ℕ))) → IsNumbered f → IsNumbered g
    → 1 ≤ n → n ≤ 250 → 1 ≤ m → m ≤ 250 → IsFresh rest → IsFresh others
    → map f (all_places n) ++ rest ≡ map g (all_places m) ++ others
    → (n ≡ m) × (map f (all_places n) ≡ map g (all_places m)) × (rest ≡ others)
same_iterations f g zero m rest others nf ng some few any small fresh also e = absurd (omega (arith, some))
same_iterations f g (suc n) zero rest others nf ng some few any small fresh also e = absurd (omega (arith, any))
same_iterations f g (suc n) (suc m) rest others nf ng some few any small fresh also e =
    let first = heads (f 0) (g 0) (map f (range_with_len 1 n) ++ rest) (map g (range_with_len 1 m) ++ others) e in
    let more =
    same_runs f g 1 n m rest others nf ng (omega arith) (omega (arith, few)) (omega (arith, small)) fresh
    also first.1 in
    (ap suc more.0, (λ i. first.0 i ∷ more.1 i), more.2)
