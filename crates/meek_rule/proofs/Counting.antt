-- How many places pass a test.
use Rattle.std.proofs.Common.{◌≡◌, ℕ, ◌+◌, ◌<◌, ◌≤◌, Bool, true, false, cond, arith, refl, ap, sym, ◌∙◌, inl}
use Rattle.std.proofs.Common.{inr, zero, suc, ◌⊎◌, subst, add-one}
use Rattle.std.proofs.lemmas.Bool.{cases_Bool, cases_eq}
use Rattle.meek_rule.specs.Places.{count_places}
use Rattle.meek_rule.proofs.PlaceLemmas.{count_more}

abbrev pub one_if : Bool → ℕ
one_if test = cond test 1 0

-- how many places below n pass
abbrev pub count : ℕ → (ℕ → Bool) → ℕ
count zero test = 0
count (suc n) test = count n test + cond (test n) 1 0

pub count_places-count : (n : ℕ) (test : ℕ → Bool) → count_places n test ≡ count n test
count_places-count zero test = refl
count_places-count (suc n) test =
    subst (λ (m : ℕ). count_places m test ≡ count n test + cond (test n) 1 0) (add-one n)
    (count_more test n ∙ ap (λ (k : ℕ). k + cond (test n) 1 0) (count_places-count n test))

pub one_if-le : (a b : Bool) → (a ≡ true → b ≡ true) → cond a 1 0 ≤ cond b 1 0
one_if-le true b f = rw (f refl) (omega arith)
one_if-le false b f = omega arith

-- who passes one test passes the other
pub count-le : (n : ℕ) (p q : ℕ → Bool) → ((c : ℕ) → c < n → p c ≡ true → q c ≡ true) → count n p ≤ count n q
count-le zero p q f = omega arith
count-le (suc n) p q f =
    let before : count n p ≤ count n q = count-le n p q (λ c below. f c (omega arith)) in
    let here = one_if-le (p n) (q n) (f n (omega arith)) in
    omega arith

-- and one passes only the other
pub count-lt :
    (n : ℕ) (p q : ℕ → Bool) (b : ℕ) → b < n → p b ≡ false → q b ≡ true
    → ((c : ℕ) → c < n → p c ≡ true → q c ≡ true) → count n p < count n q
count-lt zero p q b below fails is f = absurd (omega arith)
count-lt (suc n) p q b below fails is f =
    elim (cases_eq b n) [
      | inl same ↦
          let before : count n p ≤ count n q = count-le n p q (λ c less. f c (omega arith)) in
          let none : one_if (p n) ≡ 0 = ap one_if (ap p (sym same) ∙ fails) in
          let one : one_if (q n) ≡ 1 = ap one_if (ap q (sym same) ∙ is) in
          omega arith
      | inr other ↦
          let before : count n p < count n q = count-lt n p q b (omega arith) fails is (λ c less. f c (omega arith)) in
          let here = one_if-le (p n) (q n) (f n (omega arith)) in
          omega arith
    ]

-- who passes one test passes the other, but for one
pub count-le_but_one :
    (n : ℕ) (p q : ℕ → Bool) (m : ℕ) → ((c : ℕ) → c < n → p c ≡ true → (q c ≡ true) ⊎ (c ≡ m))
    → count n p ≤ count n q + 1
count-le_but_one zero p q m f = omega arith
count-le_but_one (suc n) p q m f =
    elim (cases_eq n m) [
      | inl same ↦
          let before : count n p ≤ count n q =
          count-le n p q
          (λ c less is. elim (f c (omega arith) is) [ inl passes ↦ passes | inr at ↦ absurd (omega arith) ])
          in
          let here : cond (p n) 1 0 ≤ 1 = at_most_one (p n) in
          omega arith
      | inr other ↦
          let before : count n p ≤ count n q + 1 = count-le_but_one n p q m (λ c less is. f c (omega arith) is) in
          let here : cond (p n) 1 0 ≤ cond (q n) 1 0 =
          one_if-le (p n) (q n) (λ is. elim (f n (omega arith) is) [ inl passes ↦ passes | inr at ↦ absurd (other at) ]) in
          omega arith
    ]
  where
    at_most_one : (t : Bool) → cond t 1 0 ≤ 1
    at_most_one true = omega arith
    at_most_one false = omega arith

-- nobody passes a test that nobody passes
pub count_none : (n : ℕ) → count n (λ _. false) ≡ 0
count_none zero = refl
count_none (suc n) = let before : count n (λ _. false) ≡ 0 = count_none n in omega arith

-- two counts that together make a third
pub count-add :
    (n : ℕ) (p q r : ℕ → Bool) → ((c : ℕ) → cond (p c) 1 0 + cond (q c) 1 0 ≡ cond (r c) 1 0)
    → count n p + count n q ≡ count n r
count-add zero p q r f = refl
count-add (suc n) p q r f =
    let before : count n p + count n q ≡ count n r = count-add n p q r f in
    let here : cond (p n) 1 0 + cond (q n) 1 0 ≡ cond (r n) 1 0 = f n in
    omega arith

pub count_same : (n : ℕ) (p q : ℕ → Bool) → ((c : ℕ) → one_if (p c) ≡ one_if (q c)) → count n p ≡ count n q
count_same zero p q f = refl
count_same (suc n) p q f =
    let before : count n p ≡ count n q = count_same n p q f in
    let here : one_if (p n) ≡ one_if (q n) = f n in
    omega arith

-- somebody passes a test that is counted at least once
pub count_some : (n : ℕ) (test : ℕ → Bool) → 1 ≤ count n test → (p : ℕ) × (p < n) × (test p ≡ true)
count_some zero test some = absurd (omega arith)
count_some (suc n) test some =
    elim (cases_Bool (test n)) [
      | inl is ↦ (n, omega arith, is)
      | inr fails ↦
          let none : one_if (test n) ≡ 0 = ap one_if fails in
          let before = count_some n test (omega arith) in
          (before.0, omega (arith, before.1), before.2)
    ]

-- all pass, or one doesn't
pub find_failing :
    (n : ℕ) (p q : ℕ → Bool)
    → ((c : ℕ) → c < n → p c ≡ true → q c ≡ true) ⊎ ((m : ℕ) × (m < n) × (p m ≡ true) × (q m ≡ false))
find_failing zero p q = inl (λ c below is. absurd (omega arith))
find_failing (suc n) p q =
    elim (find_failing n p q) [
      | inr found ↦ inr (found.0, omega (arith, found.1), found.2, found.3)
      | inl all ↦
          elim (cases_Bool (p n)) [
            | inl is ↦
                elim (cases_Bool (q n)) [
                  | inl passes ↦
                      inl (λ c below here. elim (cases_eq c n)
                      [ inl same ↦ ap q same ∙ passes | inr other ↦ all c (omega arith) here ])
                  | inr fails ↦ inr (n, omega arith, is, fails)
                ]
            | inr not_so ↦
                inl (λ c below here. elim (cases_eq c n) [
                  | inl same ↦
                      absurd (let off = sym here ∙ (ap p same ∙ not_so) in cc)
                  | inr other ↦
                      all c (omega arith) here
                ])
          ]
    ]
