-- How many candidates can have a bar: those with one come after fewer than 24 others, and no two come after as many.
use Rattle.std.proofs.Common.{◌≡◌, ◌∙◌, refl, sym, ap, ℕ, zero, suc, ◌+◌, ◌<◌, ◌≤◌, Bool, true, false, cond}
use Rattle.std.proofs.Common.{length, inl, inr, arith}
use Rattle.std.specs.Prelude.{◌⊎◌, ◌&&◌, ◌||◌, nat_eq, nat_lt, count_by, slice_index}
use Rattle.std.specs.List.{filter, range_with_len}
use Rattle.std.proofs.lemmas.Bool.{and_from, and_parts, and_right, cases_Bool, cases_lt, cases_order, eq-eqb, eqb-true, false_from_ne_true}
use Rattle.std.proofs.lemmas.Bool.{le-ltb, lt-ltb, ltb-true, or_cases, or_left, or_right}
use Rattle.std.proofs.lemmas.List.Sums.{length-filter, sum_by-cons}
use Rattle.meek_rule.specs.Row.{Row}
use Rattle.sheet_page.specs.Bars.{bars_before, comes_before, has_bar, most_bars, stands}
use Rattle.sheet_page.specs.Values.{all_places}

-- ---- counts over a run of numbers

module _ (f : ℕ → Bool) where
  one : (a n : ℕ) → count_by f (range_with_len a (suc n)) ≡ cond (f a) 1 0 + count_by f (range_with_len (a + 1) n)
  one a n = sum_by-cons (λ x. cond (f x) 1 0) a (range_with_len (a + 1) n)

-- a count where a test says more
abbrev tick : Bool → ℕ
tick b = cond b 1 0

tick_le : (b c : Bool) → (b ≡ true → c ≡ true) → cond b 1 0 ≤ cond c 1 0
tick_le true c more = omega (arith, ap tick (more refl))
tick_le false c more = omega arith

tick_split : (b c d : Bool) → (b ≡ true → (c ≡ true) ⊎ (d ≡ true)) → cond b 1 0 ≤ cond c 1 0 + cond d 1 0
tick_split true c d more = elim (more refl) [ inl is ↦ omega (arith, ap tick is) | inr is ↦ omega (arith, ap tick is) ]
tick_split false c d more = omega arith

count_le :
    (f g : ℕ → Bool) (a n : ℕ) → ((x : ℕ) → f x ≡ true → g x ≡ true)
    → count_by f (range_with_len a n) ≤ count_by g (range_with_len a n)
count_le f g a zero more = omega arith
count_le f g a (suc n) more =
    omega (arith, one f a n, one g a n, tick_le (f a) (g a) (more a), count_le f g (a + 1) n more)

-- and more of one number in the run
count_less :
    (f g : ℕ → Bool) (a n x : ℕ) → ((y : ℕ) → f y ≡ true → g y ≡ true) → a ≤ x → x < a + n → f x ≡ false → g x ≡ true
    → count_by f (range_with_len a n) < count_by g (range_with_len a n)
count_less f g a zero x more from below not is = absurd (omega arith)
count_less f g a (suc n) x more from below not is =
    elim (cases_order a x) [
      | inl here ↦
          let no = ap tick (ap f here ∙ not) in
          let yes = ap tick (ap g here ∙ is) in
          omega (arith, one f a n, one g a n, no, yes, count_le f g (a + 1) n more)
      | inr other ↦ elim other [
        | inl behind ↦
            let rest = count_less f g (a + 1) n x more (omega arith) (omega arith) not is in
            omega (arith, one f a n, one g a n, tick_le (f a) (g a) (more a), rest)
        | inr before ↦ absurd (omega arith)
      ]
    ]

count_none : (f : ℕ → Bool) (a n : ℕ) → ((x : ℕ) → a ≤ x → x < a + n → f x ≡ false) → count_by f (range_with_len a n) ≡ 0
count_none f a zero none = refl
count_none f a (suc n) none =
    let no = ap tick (none a (omega arith) (omega arith)) in
    let rest = count_none f (a + 1) n (λ x from below. none x (omega arith) (omega arith)) in
    omega (arith, one f a n, no, rest)

-- what holds of no two holds of one at most
count_one :
    (f : ℕ → Bool) (a n : ℕ)
    → ((x y : ℕ) → a ≤ x → x < y → y < a + n → f x ≡ true → f y ≡ true → ⊥)
    → count_by f (range_with_len a n) ≤ 1
count_one f a zero apart = omega arith
count_one f a (suc n) apart =
    elim (cases_Bool (f a)) [
      | inl is ↦
          let yes = ap tick is in
          let rest = count_none f (a + 1) n
          (λ x from below. false_from_ne_true (f x) (apart a x (omega arith) (omega arith) (omega arith) is)) in
          omega (arith, one f a n, yes, rest)
      | inr not ↦
          let no = ap tick not in
          let rest = count_one f (a + 1) n
          (λ x y from less below. apart x y (omega arith) less (omega arith)) in
          omega (arith, one f a n, no, rest)
    ]

count_split :
    (f g h : ℕ → Bool) (a n : ℕ) → ((x : ℕ) → f x ≡ true → (g x ≡ true) ⊎ (h x ≡ true))
    → count_by f (range_with_len a n) ≤ count_by g (range_with_len a n) + count_by h (range_with_len a n)
count_split f g h a zero either = omega arith
count_split f g h a (suc n) either =
    omega (
      arith,
      one f a n,
      one g a n,
      one h a n,
      tick_split (f a) (g a) (h a) (either a),
      count_split f g h (a + 1) n either,
    )

-- ---- the order of those who stand

module _ (row : Row) where
  -- q comes before p
  abbrev Before : (p q : ℕ) → Type 0
  Before p q = (slice_index row.votes p < slice_index row.votes q)
      ⊎ ((slice_index row.votes p ≡ slice_index row.votes q) × (q < p))

  before_of : (p q : ℕ) → comes_before row p q ≡ true → (stands row q ≡ true) × Before p q
  before_of p q is =
      let vp = slice_index row.votes p in
      let vq = slice_index row.votes q in
      let parts = and_parts (stands row q) (nat_lt vp vq || (nat_eq vp vq && nat_lt q p)) is in (
        parts.0,
        elim (or_cases (nat_lt vp vq) (nat_eq vp vq && nat_lt q p) parts.1) [
          | inl less ↦ inl (ltb-true vp vq less)
          | inr both ↦
              let two = and_parts (nat_eq vp vq) (nat_lt q p) both in
              inr (eqb-true vp vq two.0, ltb-true q p two.1)
        ],
      )

  before_from : (p q : ℕ) → stands row q ≡ true → Before p q → comes_before row p q ≡ true
  before_from p q stand before =
      let vp = slice_index row.votes p in
      let vq = slice_index row.votes q in
      and_from (stands row q) (nat_lt vp vq || (nat_eq vp vq && nat_lt q p)) stand
      (elim before [
        | inl less ↦ or_left (nat_lt vp vq) (nat_eq vp vq && nat_lt q p) (lt-ltb vp vq less)
        | inr same ↦
            or_right (nat_lt vp vq) (nat_eq vp vq && nat_lt q p)
            (and_from (nat_eq vp vq) (nat_lt q p) (eq-eqb vp vq same.0) (lt-ltb q p same.1))
      ])

  transitive : (p q x : ℕ) → Before q p → Before p x → Before q x
  transitive p q x (inl one) (inl two) = inl (omega (arith, one, two))
  transitive p q x (inl one) (inr two) = inl (omega (arith, one, two.0))
  transitive p q x (inr one) (inl two) = inl (omega (arith, one.0, two))
  transitive p q x (inr one) (inr two) = inr (one.0 ∙ two.0, omega (arith, one.1, two.1))

  not_itself : (p : ℕ) → Before p p → ⊥
  not_itself p (inl less) = omega (arith, less)
  not_itself p (inr same) = omega (arith, same.1)

  -- who comes before another comes after fewer
  fewer_before :
      (p q : ℕ) → p < length row.votes → stands row p ≡ true → Before q p → bars_before row p < bars_before row q
  fewer_before p q inside stand before =
      count_less (comes_before row p) (comes_before row q) 0 (length row.votes) p
      (λ y is.
      let of = before_of p y is in
      before_from q y of.0 (transitive p q y before of.1))
      (omega arith) (omega (arith, inside))
      (false_from_ne_true (comes_before row p p) (λ is. not_itself p (before_of p p is).1))
      (before_from q p stand before)

  -- no two who stand come after as many
  no_two :
      (p q : ℕ) → p < q → q < length row.votes → stands row p ≡ true → stands row q ≡ true
      → bars_before row p ≡ bars_before row q → ⊥
  no_two p q less inside one two same =
      elim (cases_order (slice_index row.votes p) (slice_index row.votes q)) [
        | inl equal ↦ omega (arith, same, fewer_before p q (omega (arith, less, inside)) one (inr (sym equal, less)))
        | inr other ↦ elim other [
          | inl above ↦ omega (arith, same, fewer_before q p inside two (inl above))
          | inr below ↦ omega (arith, same, fewer_before p q (omega (arith, less, inside)) one (inl below))
        ]
      ]

  -- who stands and comes after fewer than so many, or just so many
  abbrev after_fewer : (k p : ℕ) → Bool
  after_fewer k p = stands row p && nat_lt (bars_before row p) k

  abbrev after_just : (k p : ℕ) → Bool
  after_just k p = stands row p && nat_eq (bars_before row p) k

  fewer_or_just : (k p : ℕ) → after_fewer (suc k) p ≡ true → (after_fewer k p ≡ true) ⊎ (after_just k p ≡ true)
  fewer_or_just k p is =
      let r = bars_before row p in
      let parts = and_parts (stands row p) (nat_lt r (suc k)) is in
      let less : r < suc k = ltb-true r (suc k) parts.1 in
      elim (cases_lt r k) [
        | inl below ↦ inl (and_from (stands row p) (nat_lt r k) parts.0 (lt-ltb r k below))
        | inr above ↦ inr (and_from (stands row p) (nat_eq r k) parts.0 (eq-eqb r k (omega (arith, less, above))))
      ]

  one_after : (k n : ℕ) → n ≤ length row.votes → count_by (after_just k) (all_places n) ≤ 1
  one_after k n inside =
      count_one (after_just k) 0 n
      (λ x y from less below one two.
      let first = and_parts (stands row x) (nat_eq (bars_before row x) k) one in
      let second = and_parts (stands row y) (nat_eq (bars_before row y) k) two in
      no_two x y less (omega (arith, below, inside)) first.0 second.0
      (eqb-true (bars_before row x) k first.1 ∙ sym (eqb-true (bars_before row y) k second.1)))

  few_after : (k n : ℕ) → n ≤ length row.votes → count_by (after_fewer k) (all_places n) ≤ k
  few_after zero n inside =
      let none = count_none (after_fewer 0) 0 n
      (λ x from below. and_right (stands row x) (nat_lt (bars_before row x) 0) (le-ltb (bars_before row x) 0 (omega arith))) in
      omega (arith, none)
  few_after (suc k) n inside =
      omega (
        arith,
        count_split (after_fewer (suc k)) (after_fewer k) (after_just k) 0 n (fewer_or_just k),
        few_after k n inside,
        one_after k n inside,
      )

  pub few_bars : (n : ℕ) → n ≤ length row.votes → length (filter (has_bar row) (all_places n)) ≤ most_bars
  few_bars n inside = omega (arith, length-filter (has_bar row) (all_places n), few_after 24 n inside)
