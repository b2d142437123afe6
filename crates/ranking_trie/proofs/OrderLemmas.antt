-- Rankings in lexicographic order.
use Rattle.std.proofs.Common.{Ordering, Less, Equal, Greater, ◌≡◌, ℕ, ◌+◌, ◌<◌, List, [], ◌∷◌, ◌++◌, length}
use Rattle.std.proofs.Common.{get_or, map, replicate, zero, suc, false, arith, refl, ap, sym, subst, ◌∙◌}
use Rattle.std.specs.List.{AllByRecursion}
use Rattle.std.specs.Ordering.{nat_cmp, is_lt, ordering_then, ordering_reverse}
use Rattle.std.specs.Cmp.Lexicographic.{slice_cmp}
use Rattle.std.proofs.lemmas.Cmp.{nat_list_cmp_total}
use Rattle.std.proofs.lemmas.List.Sorted.{ranks_by, sorted_far}
use Rattle.std.proofs.lemmas.Bool.{true≢false}
use Rattle.std.specs.FinMap.{slice_cmp-IsAntisymmetric, nat_cmp-IsAntisymmetric}
use Rattle.std.proofs.lemmas.Bool.Decides.{nat_tests}
use Rattle.ranking_trie.specs.BallotBag.{AreInOrder}

-- one ranking is before the other
abbrev pub before : List ℕ → List ℕ → Type 0
before r s = slice_cmp nat_cmp r s ≡ Less

-- or is the same
abbrev pub upto : List ℕ → List ℕ → Type 0
upto r s = is_lt (slice_cmp nat_cmp s r) ≡ false

same_cmp : (c : ℕ) → nat_cmp c c ≡ Equal
same_cmp c = grind (arith, nat_tests)

less_cmp : (c d : ℕ) → c < d → nat_cmp c d ≡ Less
less_cmp c d less = grind (arith, nat_tests)

pub cmp-same : (c : ℕ) (r s : List ℕ) → slice_cmp nat_cmp (c ∷ r) (c ∷ s) ≡ slice_cmp nat_cmp r s
cmp-same c r s = ap (λ (o : Ordering). ordering_then o (slice_cmp nat_cmp r s)) (same_cmp c)

pub cmp-less : (c d : ℕ) (r s : List ℕ) → c < d → before (c ∷ r) (d ∷ s)
cmp-less c d r s less = ap (λ (o : Ordering). ordering_then o (slice_cmp nat_cmp r s)) (less_cmp c d less)

pub upto-from_before : (r s : List ℕ) → before r s → upto r s
upto-from_before r s less =
    ap is_lt (nat_list_cmp_total.antisymm s r ∙ ap ordering_reverse less)

pub upto-refl : (r : List ℕ) → upto r r
upto-refl [] = refl
upto-refl (c ∷ r) = ap is_lt (cmp-same c r r) ∙ upto-refl r

neither : (o p : Ordering) → p ≡ ordering_reverse o → is_lt o ≡ false → is_lt p ≡ false → o ≡ Equal
neither Less p back a b = absurd (true≢false a)
neither Equal p back a b = refl
neither Greater p back a b = absurd (true≢false (sym (ap is_lt back) ∙ b))

-- neither before the other
pub same_from_both : (r s : List ℕ) → upto r s → upto s r → r ≡ s
same_from_both r s a b =
    slice_cmp-IsAntisymmetric nat_cmp-IsAntisymmetric r s
    (neither (slice_cmp nat_cmp r s) (slice_cmp nat_cmp s r) (nat_list_cmp_total.antisymm s r) b a)

pub each-append :
    {X : Type 0} (P : X → Type 0) (xs ys : List X) → AllByRecursion P xs → AllByRecursion P ys
    → AllByRecursion P (xs ++ ys)
each-append P [] ys a b = b
each-append P (x ∷ xs) ys a b = (a.0, each-append P xs ys a.1 b)

pub each-weaker :
    {X : Type 0} (P Q : X → Type 0) (xs : List X) → ((x : X) → P x → Q x) → AllByRecursion P xs
    → AllByRecursion Q xs
each-weaker P Q [] weaker a = tt
each-weaker P Q (x ∷ xs) weaker a = (weaker x a.0, each-weaker P Q xs weaker a.1)

pub each-map :
    {X Y : Type 0} (P : Y → Type 0) (f : X → Y) (xs : List X) → AllByRecursion (λ x. P (f x)) xs
    → AllByRecursion P (map f xs)
each-map P f [] a = tt
each-map P f (x ∷ xs) a = (a.0, each-map P f xs a.1)

pub each-replicate : {X : Type 0} (P : X → Type 0) (n : ℕ) (x : X) → P x → AllByRecursion P (replicate n x)
each-replicate P zero x here = tt
each-replicate P (suc n) x here = (here, each-replicate P n x here)

-- each element is followed only by such that it may stand before
abbrev pub Follows : {X : Type 0} → (X → X → Type 0) → List X → Type 0
Follows R [] = Unit {0}
Follows R (x ∷ xs) = AllByRecursion (R x) xs × Follows R xs

pub follows-append :
    {X : Type 0} (R : X → X → Type 0) (xs ys : List X) → Follows R xs → Follows R ys
    → AllByRecursion (λ x. AllByRecursion (R x) ys) xs → Follows R (xs ++ ys)
follows-append R [] ys a b both = b
follows-append R (x ∷ xs) ys a b both = (each-append (R x) xs ys a.0 both.0, follows-append R xs ys a.1 b both.1)

pub follows-map :
    {X Y : Type 0} (R : Y → Y → Type 0) (f : X → Y) (xs : List X) → Follows (λ x y. R (f x) (f y)) xs
    → Follows R (map f xs)
follows-map R f [] a = tt
follows-map R f (x ∷ xs) a = (each-map (R (f x)) f xs a.0, follows-map R f xs a.1)

pub follows-replicate : {X : Type 0} (R : X → X → Type 0) (n : ℕ) (x : X) → R x x → Follows R (replicate n x)
follows-replicate R zero x same = tt
follows-replicate R (suc n) x same = (each-replicate (R x) n x same, follows-replicate R n x same)

-- neighbours in order, and each before all after it
neighbours :
    (xs : List (List ℕ)) (k : ℕ) (d : List ℕ) → Follows upto xs → suc k < length xs
    → upto (get_or xs k d) (get_or xs (suc k) d)
neighbours [] k d a inside = absurd (omega arith)
neighbours (x ∷ []) k d a inside = absurd (omega arith)
neighbours (x ∷ y ∷ xs) zero d a inside = a.0.0
neighbours (x ∷ y ∷ xs) (suc k) d a inside = neighbours (y ∷ xs) k d a.1 (omega arith)

pub order_from_follows : (xs : List (List ℕ)) → Follows upto xs → AreInOrder xs
order_from_follows xs a k d low inside =
    subst (λ (j : ℕ). upto (get_or xs k d) (get_or xs j d)) (omega arith) (neighbours xs k d a (omega arith))

each_from_index :
    {X : Type 0} (P : X → Type 0) (xs : List X) → ((k : ℕ) (d : X) → k < length xs → P (get_or xs k d))
    → AllByRecursion P xs
each_from_index P [] all = tt
each_from_index P (x ∷ xs) all = (all 0 x (omega arith), each_from_index P xs (λ k d inside. all (suc k) d (omega arith)))

pub follows_from_order : (xs : List (List ℕ)) → AreInOrder xs → Follows upto xs
follows_from_order [] order = tt
follows_from_order (x ∷ xs) order =
    let far =
    sorted_far (λ r s. is_lt (slice_cmp nat_cmp r s)) (ranks_by nat_list_cmp_total (λ (r : List ℕ). r))
    (x ∷ xs) order in (
      each_from_index (upto x) xs (λ k d inside. far 0 (suc k) d (omega arith) (omega arith)),
      follows_from_order xs (λ k d low inside.
          let next : suc k + 1 ≡ suc (k + 1) = omega arith in
          subst (λ (j : ℕ). upto (get_or (x ∷ xs) (suc k) d) (get_or (x ∷ xs) j d)) next
          (order (suc k) d (omega arith) (omega arith))),
    )
