-- Sums over places, place by place.
use Rattle.std.proofs.Common.{◌≡◌, ◌≢◌, ℕ, ◌+◌, ◌*◌, ◌<◌, ◌≤◌, Bool, cond, List, length, sum, count_by}
use Rattle.std.proofs.Common.{get_or, arith, refl, ap, sym, ◌∙◌, zero, suc, subst}
use Rattle.std.proofs.Common.{add-one, inl, inr}
use Rattle.std.proofs.Math.Nat.{add-mul}
use Rattle.std.proofs.lemmas.Bool.{cases_eq, cases_lt}
use Rattle.std.proofs.lemmas.List.FromFn.{sum_by-map-range_with_len_more, fill_by_all}
use Rattle.candidate_roll.specs.State.{state_at}
use Rattle.candidate_roll.specs.declared.state.State.{State}
use Rattle.meek_rule.specs.Places.{each_place, count_places}
use Rattle.meek_rule.proofs.PlaceLemmas.{count_more}
use Rattle.meek_rule.proofs.StateCounts.{states_by_place}
use Rattle.meek_rule.proofs.TotalLemmas.{sum_suc}

abbrev pub one_if : Bool → ℕ
one_if test = cond test 1 0

-- the sum of f over the places below n
abbrev pub total : ℕ → (ℕ → ℕ) → ℕ
total zero f = 0
total (suc n) f = total n f + f n

pub sum-total : (n : ℕ) (f : ℕ → ℕ) → sum (each_place n f) ≡ total n f
sum-total zero f = refl
sum-total (suc n) f = sum_suc f n ∙ ap (λ (k : ℕ). k + f n) (sum-total n f)

pub count-total : (n : ℕ) (test : ℕ → Bool) → count_places n test ≡ total n (λ p. one_if (test p))
count-total zero test = refl
count-total (suc n) test =
    subst (λ (m : ℕ). count_places m test ≡ total n (λ p. one_if (test p)) + one_if (test n)) (add-one n)
    (count_more test n ∙ ap (λ (k : ℕ). k + one_if (test n)) (count-total n test))

-- how many items of a list by places pass
pub count_by-total :
    {X : Type 0} (test : X → Bool) (f : ℕ → X) (n : ℕ)
    → count_by test (each_place n f) ≡ total n (λ p. one_if (test (f p)))
count_by-total test f zero = refl
count_by-total test f (suc n) =
    subst (λ (m : ℕ). count_by test (each_place m f) ≡ total n (λ p. one_if (test (f p))) + one_if (test (f n))) (add-one n)
    (sum_by-map-range_with_len_more (λ x. cond (test x) 1 0) f 0 n n (omega arith)
    ∙ ap (λ (k : ℕ). k + one_if (test (f n)))
    (count_by-total test f n))

-- how many states of a list pass
pub states-total :
    (test : State → Bool) (states : List State)
    → count_by test states ≡ total (length states) (λ p. one_if (test (state_at states p)))
states-total test states =
    ap (count_by test) (states_by_place states) ∙ count_by-total test (state_at states) (length states)

-- the numbers of a list together
pub list-total : (xs : List ℕ) (n : ℕ) → length xs ≡ n → sum xs ≡ total n (λ p. get_or xs p 0)
list-total xs n same =
    ap sum (fill_by_all (λ p. get_or xs p 0) xs n 0 same (λ p below. refl)) ∙ sum-total n (λ p. get_or xs p 0)

pub total-le : (n : ℕ) (f g : ℕ → ℕ) → ((p : ℕ) → p < n → f p ≤ g p) → total n f ≤ total n g
total-le zero f g each = omega arith
total-le (suc n) f g each =
    let before : total n f ≤ total n g = total-le n f g (λ p below. each p (omega arith)) in
    let here : f n ≤ g n = each n (omega arith) in
    omega arith

pub total-same : (n : ℕ) (f g : ℕ → ℕ) → ((p : ℕ) → p < n → f p ≡ g p) → total n f ≡ total n g
total-same zero f g each = refl
total-same (suc n) f g each =
    let before : total n f ≡ total n g = total-same n f g (λ p below. each p (omega arith)) in
    let here : f n ≡ g n = each n (omega arith) in
    omega arith

pub total-add : (n : ℕ) (f g : ℕ → ℕ) → total n (λ p. f p + g p) ≡ total n f + total n g
total-add zero f g = refl
total-add (suc n) f g = omega (arith, total-add n f g)

pub total-times : (n k : ℕ) (f : ℕ → ℕ) → total n (λ p. f p * k) ≡ total n f * k
total-times zero k f = omega arith
total-times (suc n) k f = omega (arith, total-times n k f, add-mul (total n f) (f n) k)

-- one of the numbers is at most all
pub total-part : (n p : ℕ) (f : ℕ → ℕ) → p < n → f p ≤ total n f
total-part zero p f below = absurd (omega arith)
total-part (suc n) p f below =
    elim (cases_eq p n) [
      | inl same ↦ let here : f p ≡ f n = ap f same in omega arith
      | inr other ↦ let before : f p ≤ total n f = total-part n p f (omega arith) in omega arith
    ]

-- and two of them together
pub total-two : (n p q : ℕ) (f : ℕ → ℕ) → p < n → q < n → p ≢ q → f p + f q ≤ total n f
total-two zero p q f first second apart = absurd (omega arith)
total-two (suc n) p q f first second apart =
    elim (cases_eq p n) [
      | inl same ↦
          let here : f p ≡ f n = ap f same in
          let other : q ≢ n = λ e. apart (same ∙ sym e) in
          let before : f q ≤ total n f = total-part n q f (omega arith) in
          omega arith
      | inr other ↦
          elim (cases_eq q n) [
            | inl same ↦
                let here : f q ≡ f n = ap f same in
                let before : f p ≤ total n f = total-part n p f (omega arith) in
                omega arith
            | inr neither ↦
                let before : f p + f q ≤ total n f =
                total-two n p q f (omega arith) (omega arith) apart in
                omega arith
          ]
    ]

pub total-none : (n : ℕ) (f : ℕ → ℕ) → ((p : ℕ) → p < n → f p ≡ 0) → total n f ≡ 0
total-none zero f each = refl
total-none (suc n) f each =
    let before : total n f ≡ 0 = total-none n f (λ p below. each p (omega arith)) in
    let here : f n ≡ 0 = each n (omega arith) in
    omega arith

-- numbers that are greater at one place alone
pub total-but_one : (n p : ℕ) (f g : ℕ → ℕ) → ((q : ℕ) → q < n → q ≢ p → f q ≤ g q) → total n f ≤ total n g + f p
total-but_one zero p f g each = omega arith
total-but_one (suc n) p f g each =
    elim (cases_eq n p) [
      | inl same ↦
          let before : total n f ≤ total n g = total-le n f g (λ q below. each q (omega arith) (λ e. omega arith)) in
          let here : f n ≡ f p = ap f same in
          omega arith
      | inr other ↦
          let before : total n f ≤ total n g + f p = total-but_one n p f g (λ q below. each q (omega arith)) in
          let here : f n ≤ g n = each n (omega arith) other in
          omega arith
    ]

-- where the sum is not 0 one of the numbers isn't
pub total-some : (n : ℕ) (f : ℕ → ℕ) → 1 ≤ total n f → (p : ℕ) × (p < n) × (1 ≤ f p)
total-some zero f some = absurd (omega arith)
total-some (suc n) f some =
    elim (cases_lt 0 (f n)) [
      | inl here ↦ (n, omega arith, omega arith)
      | inr none ↦ let before = total-some n f (omega arith) in (before.0, omega (arith, before.1), before.2)
    ]

-- numbers of which one is less
pub total-less : (n p : ℕ) (f g : ℕ → ℕ) → ((q : ℕ) → q < n → f q ≤ g q) → p < n → f p < g p → total n f < total n g
total-less zero p f g each below less = absurd (omega arith)
total-less (suc n) p f g each below less =
    elim (cases_eq p n) [
      | inl same ↦
          let before : total n f ≤ total n g = total-le n f g (λ q inside. each q (omega arith)) in
          let here : f n < g n = subst (λ (k : ℕ). f k < g k) same less in
          omega arith
      | inr other ↦
          let before : total n f < total n g = total-less n p f g (λ q inside. each q (omega arith)) (omega arith) less in
          let here : f n ≤ g n = each n (omega arith) in
          omega arith
    ]
