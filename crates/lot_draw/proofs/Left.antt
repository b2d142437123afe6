-- Who is left after some were drawn.
use Rattle.std.proofs.Common.{◌≡◌, refl, sym, ap, ◌∙◌, not, ◌&&◌, ◌||◌, ℕ, ◌+◌, ◌<◌, zero, suc, Bool, true}
use Rattle.std.proofs.Common.{false, cond, eqb, List, [], ◌∷◌, ◌++◌, length, get_or, All, arith}
use Rattle.std.specs.List.{filter, remove, range_with_len, AllPairs}
use Rattle.std.proofs.lemmas.Bool.{eq-eqb, ne_eqb}
use Rattle.std.proofs.lemmas.List.Elements.{filter_agree, All-head, All-tail}
use Rattle.std.proofs.lemmas.List.Folds.{list_any-append}
use Rattle.std.proofs.lemmas.List.FromFn.{length-range_with_len, get_or-range_with_len}
use Rattle.std.proofs.lemmas.List.Kept.{AllPairs-filter}
use Rattle.lot_draw.specs.Draw.{is_among, not_drawn}

-- who passes a test, of those who pass another
filter-filter : (p q : ℕ → Bool) (xs : List ℕ) → filter q (filter p xs) ≡ filter (λ c. p c && q c) xs
filter-filter p q [] = refl
filter-filter p q (x ∷ xs) =
    elim (p x) as (λ b. filter q (cond b (x ∷ filter p xs) (filter p xs))
    ≡ cond (b && q x) (x ∷ filter (λ c. p c && q c) xs) (filter (λ c. p c && q c) xs)) [
      | true ↦ ap (λ (l : List ℕ). cond (q x) (x ∷ l) l) (filter-filter p q xs)
      | false ↦ filter-filter p q xs
    ]

-- all pass
filter-all : (p : ℕ → Bool) (xs : List ℕ) → All (λ c. p c ≡ true) xs → filter p xs ≡ xs
filter-all p [] all = refl
filter-all p (x ∷ xs) all =
    let P : ℕ → Type 0 = λ c. p c ≡ true in
    ap (λ b. cond b (x ∷ filter p xs) (filter p xs)) (All-head P x xs all)
    ∙ ap (λ (l : List ℕ). x ∷ l) (filter-all p xs (All-tail P x xs all))

-- somebody who passes is found
pub filter-contains :
    (p : ℕ → Bool) (xs : List ℕ) (i : ℕ) → i < length xs → p (get_or xs i 0) ≡ true → 0 < length (filter p xs)
filter-contains p [] i below passes = absurd (omega arith)
filter-contains p (x ∷ xs) zero below passes =
    let e : filter p (x ∷ xs) ≡ x ∷ filter p xs = ap (λ b. cond b (x ∷ filter p xs) (filter p xs)) passes in
    omega (arith, ap length e)
filter-contains p (x ∷ xs) (suc i) below passes =
    elim (p x) as (λ b. 0 < length (cond b (x ∷ filter p xs) (filter p xs))) [
      | true ↦ omega arith
      | false ↦ filter-contains p xs i (omega arith) passes
    ]

-- of a rising list, all but the one at a place
filter-other :
    (xs : List ℕ) (i : ℕ) → i < length xs → AllPairs (λ (x y : ℕ). x < y) xs
    → filter (λ c. not (eqb (get_or xs i 0) c)) xs ≡ remove xs i
filter-other [] i below rising = absurd (omega arith)
filter-other (x ∷ xs) zero below rising =
    let test : ℕ → Bool = λ c. not (eqb x c) in
    let here : test x ≡ false = ap not (eq-eqb x x refl) in
    ap (λ b. cond b (x ∷ filter test xs) (filter test xs)) here
    ∙ filter-all test xs (λ k d inside. ap not (ne_eqb x (get_or xs k d)
    (λ same. (let less =
    rising 0 (suc k) d (omega arith) (omega arith) in
    omega (arith, less, same)))))
filter-other (x ∷ xs) (suc i) below rising =
    let y = get_or xs i 0 in
    let test : ℕ → Bool = λ c. not (eqb y c) in
    let less : x < y = rising 0 (suc i) 0 (omega arith) below in
    let here : test x ≡ true = ap not (ne_eqb y x (λ same. omega (arith, less, same))) in
    ap (λ b. cond b (x ∷ filter test xs) (filter test xs)) here
    ∙ ap (λ (l : List ℕ). x ∷ l) (filter-other xs i (omega arith)
    (λ j k d before inside. rising (suc j) (suc k) d (omega arith) (omega arith)))

-- one more number
pub range-push : (a n : ℕ) → range_with_len a n ++ (a + n) ∷ [] ≡ range_with_len a (suc n)
range-push a zero = ap (λ (q : ℕ). q ∷ []) (let e : a + 0 ≡ a = omega arith in e)
range-push a (suc n) =
    let next : a + suc n ≡ a + 1 + n = omega arith in
    ap (λ (q : ℕ). a ∷ (range_with_len (a + 1) n ++ q ∷ [])) next ∙ ap (λ (l : List ℕ). a ∷ l) (range-push (a + 1) n)

-- numbers from a on rise
rising-range : (a n : ℕ) → AllPairs (λ (x y : ℕ). x < y) (range_with_len a n)
rising-range a n i j d before inside =
    let few : j < n = omega (arith, inside, length-range_with_len a n) in
    omega (arith, before, get_or-range_with_len a n i d (omega (arith, few, before)), get_or-range_with_len a n j d few)

not_among_more : (a b : Bool) → not (a || (b || false)) ≡ (not a && not b)
not_among_more true b = refl
not_among_more false true = refl
not_among_more false false = refl

-- everybody is left before the first was drawn
pub not_drawn-nobody : (n : ℕ) → not_drawn n [] ≡ range_with_len 1 n
not_drawn-nobody n = filter-all (λ c. not (is_among [] c)) (range_with_len 1 n) (λ k d inside. refl)

-- who is left after one more was drawn, who stood at this place of those left
pub not_drawn-more :
    (n : ℕ) (drawn : List ℕ) (i : ℕ) → i < length (not_drawn n drawn)
    → not_drawn n (drawn ++ get_or (not_drawn n drawn) i 0 ∷ []) ≡ remove (not_drawn n drawn) i
not_drawn-more n drawn i below =
    let left = not_drawn n drawn in
    let x : ℕ = get_or left i 0 in
    let before : ℕ → Bool = λ c. not (is_among drawn c) in
    let other : ℕ → Bool = λ c. not (eqb x c) in
    filter_agree (λ c. not (is_among (drawn ++ x ∷ []) c)) (λ c. before c && other c)
    (λ c. ap not (list_any-append (λ d. eqb d c) drawn (x ∷ [])) ∙ not_among_more (is_among drawn c) (eqb x c))
    (range_with_len 1 n)
    ∙ sym (filter-filter before other (range_with_len 1 n))
    ∙ filter-other left i below (AllPairs-filter (λ (a b : ℕ). a < b) before (range_with_len 1 n) (rising-range 1 n))
