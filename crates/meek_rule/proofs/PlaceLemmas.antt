-- Lists and sums by places.
use Rattle.std.proofs.Common.{◌≡◌, ℕ, ◌+◌, ◌<◌, Bool, true, false, cond, List, [], ◌∷◌, ◌&&◌, length, get_or}
use Rattle.std.proofs.Common.{set, sum, map, arith, refl, ap, sym, ◌∙◌, inl, inr, zero, suc, subst, add-one}
use Rattle.std.specs.List.{range_with_len, list_all}
use Rattle.std.proofs.lemmas.List.FromFn.{sum_by-map-range_with_len_more, get_or-range_with_len}
use Rattle.std.proofs.lemmas.List.FromFn.{length-range_with_len, map-range_with_len_more}
use Rattle.std.proofs.lemmas.List.Folds.{list_all_at, list_all-map, list_all-append}
use Rattle.std.proofs.lemmas.Bool.{cases_Bool, cases_eq}
use Rattle.std.proofs.lemmas.List.{get_or-set_other}
use Rattle.std.proofs.lemmas.Grind.{get_or-set_at}
use Rattle.meek_rule.specs.Places.{each_place, count_places}

-- one more place in a sum
pub sum_more : (f : ℕ → ℕ) (i : ℕ) → sum (each_place (i + 1) f) ≡ sum (each_place i f) + f i
sum_more f i = sum_by-map-range_with_len_more (λ x. x) f 0 i i (omega arith)

-- one more place in a count
pub count_more : (test : ℕ → Bool) (i : ℕ) → count_places (i + 1) test ≡ count_places i test + cond (test i) 1 0
count_more test i = sum_by-map-range_with_len_more (λ b. cond b 1 0) test 0 i i (omega arith)

-- what holds at all places holds at each
pub all_places : (test : ℕ → Bool) (n p : ℕ) → list_all test (range_with_len 0 n) ≡ true → p < n → test p ≡ true
all_places test n p all below =
    let inside : p < length (range_with_len 0 n) = rw length-range_with_len below in
    let at : get_or (range_with_len 0 n) p 0 ≡ p = get_or-range_with_len 0 n p 0 below ∙ omega arith in
    elim (cases_Bool (test p)) [
      | inl passes ↦ passes
      | inr fails ↦ absurd (let none = list_all_at test (range_with_len 0 n) p 0 inside (ap test at ∙ fails) in cc)
    ]

-- what holds at all places and at the next holds at all
pub all_grows :
    (test : ℕ → Bool) (n : ℕ) → list_all test (range_with_len 0 n) ≡ true → test n ≡ true
    → list_all test (range_with_len 0 (n + 1)) ≡ true
all_grows test n before here =
    let front : list_all test (map (λ (x : ℕ). x) (range_with_len 0 n)) ≡ true =
    list_all-map test (λ (x : ℕ). x) (range_with_len 0 n) ∙ before in
    let last : list_all test (n ∷ []) ≡ true = ap (λ b. b && true) here in
    sym (list_all-map test (λ (x : ℕ). x) (range_with_len 0 (n + 1)))
    ∙ (ap (λ xs. list_all test xs) (map-range_with_len_more (λ (x : ℕ). x) 0 n n (omega arith))
    ∙ (list_all-append test (map (λ (x : ℕ). x) (range_with_len 0 n)) (n ∷ [])
    ∙ (ap (λ b. b && list_all test (n ∷ [])) front ∙ last)))

pub all_from : (test : ℕ → Bool) (n : ℕ) → ((b : ℕ) → b < n → test b ≡ true) → list_all test (range_with_len 0 n) ≡ true
all_from test zero f = refl
all_from test (suc n) f =
    subst (λ (m : ℕ). list_all test (range_with_len 0 m) ≡ true) (add-one n)
    (all_grows test n (all_from test n (λ b below. f b (omega arith))) (f n (omega arith)))

-- what fails at a place doesn't hold at all
pub all_fails : (test : ℕ → Bool) (n p : ℕ) → p < n → test p ≡ false → list_all test (range_with_len 0 n) ≡ false
all_fails test n p below fails =
    list_all_at test (range_with_len 0 n) p 0 (rw length-range_with_len below)
    (ap test (get_or-range_with_len 0 n p 0 below ∙ omega arith) ∙ fails)

-- a write at a place of a list of which all before is done
pub done_more :
    {X : Type 0} (f : ℕ → X) (xs : List X) (n : ℕ) (y d : X) → n < length xs → y ≡ f n
    → ((q : ℕ) → q < n → get_or xs q d ≡ f q) → (q : ℕ) → q < n + 1 → get_or (set xs n y) q d ≡ f q
done_more f xs n y d inside is before q below =
    elim (cases_eq q n) [
      | inl same ↦ get_or-set_at xs n q y d same inside ∙ (is ∙ ap f (sym same))
      | inr other ↦ get_or-set_other xs n q y d other ∙ before q (omega arith)
    ]
