-- Sums over ranks. Where as many hold ranks as there are ranks in front that somebody holds, nobody else holds any.
use Rattle.std.proofs.Common.{◌≡◌, ℕ, zero, suc, ◌+◌, ◌<◌, ◌≤◌, ◌==◌, cond, refl, ap, arith, inl, inr}
use Rattle.std.proofs.lemmas.Bool.{cases_eq, eq-eqb, ne_eqb}

-- the sum at so many ranks from one on
abbrev pub sums : (ℕ → ℕ) → (from m : ℕ) → ℕ
sums f from zero = 0
sums f from (suc m) = f from + sums f (from + 1) m

pub sums_none : (f : ℕ → ℕ) (from m : ℕ) → ((r : ℕ) → from ≤ r → f r ≡ 0) → sums f from m ≡ 0
sums_none f from zero each = refl
sums_none f from (suc m) each =
    let whole : sums f from (suc m) ≡ f from + sums f (from + 1) m = refl in
    let here = each from (omega arith) in
    let rest = sums_none f (from + 1) m (λ r least. each r (omega (arith, least))) in
    omega (arith, whole, here, rest)

pub sums_both : (f g h : ℕ → ℕ) → ((r : ℕ) → h r ≡ f r + g r) → (from m : ℕ)
    → sums h from m ≡ sums f from m + sums g from m
sums_both f g h both from zero = refl
sums_both f g h both from (suc m) =
    let one : sums f from (suc m) ≡ f from + sums f (from + 1) m = refl in
    let other : sums g from (suc m) ≡ g from + sums g (from + 1) m = refl in
    let whole : sums h from (suc m) ≡ h from + sums h (from + 1) m = refl in
    let here = both from in
    let rest = sums_both f g h both (from + 1) m in
    omega (arith, one, other, whole, here, rest)

-- 1 at one rank, and 0 at any other
abbrev pub at_rank : (n r : ℕ) → ℕ
at_rank n r = cond (n == r) 1 0

pub sums_one_rank : (n from m : ℕ) → from ≤ n → n < from + m → sums (at_rank n) from m ≡ 1
sums_one_rank n from zero least most = absurd (omega (arith, least, most))
sums_one_rank n from (suc m) least most =
    let f = at_rank n in
    let whole : sums f from (suc m) ≡ f from + sums f (from + 1) m = refl in
    elim (cases_eq n from) [
      | inl same ↦
          let here : f from ≡ 1 = ap (λ b. cond b 1 0) (eq-eqb n from same) in
          let rest = sums_none f (from + 1) m (λ r behind.
          ap (λ b. cond b 1 0) (ne_eqb n r (λ e. omega (arith, e, same, behind)))) in
          omega (arith, whole, here, rest)
      | inr other ↦
          let here : f from ≡ 0 = ap (λ b. cond b 1 0) (ne_eqb n from other) in
          let behind : from + 1 ≤ n = omega (arith, least, other) in
          let rest = sums_one_rank n (from + 1) m behind (omega (arith, most)) in
          omega (arith, whole, here, rest)
    ]

-- at least 1 at each of the first k ranks
module _ (f : ℕ → ℕ) where
  abbrev pub IsSomeUpTo : (from k : ℕ) → Type 0
  IsSomeUpTo from k = (r : ℕ) → from ≤ r → r < from + k → 1 ≤ f r

  behind_first : (from k : ℕ) → IsSomeUpTo from (suc k) → IsSomeUpTo (from + 1) k
  behind_first from k some r least most = some r (omega (arith, least)) (omega (arith, most))

  at_least : (k from m : ℕ) → k ≤ m → IsSomeUpTo from k → k ≤ sums f from m
  at_least zero from m few some = omega arith
  at_least (suc k) from zero few some = absurd (omega (arith, few))
  at_least (suc k) from (suc m) few some =
      let whole : sums f from (suc m) ≡ f from + sums f (from + 1) m = refl in
      let here = some from (omega arith) (omega arith) in
      let rest = at_least k (from + 1) m (omega (arith, few)) (behind_first from k some) in
      omega (arith, whole, here, rest)

  -- what is more at one of them is more in all
  pub one_of_first : (k from m r : ℕ) → k ≤ m → IsSomeUpTo from k → from ≤ r → r < from + k
      → f r + k ≤ sums f from m + 1
  one_of_first zero from m r few some least most = absurd (omega (arith, least, most))
  one_of_first (suc k) from zero r few some least most = absurd (omega (arith, few))
  one_of_first (suc k) from (suc m) r few some least most =
      let whole : sums f from (suc m) ≡ f from + sums f (from + 1) m = refl in
      elim (cases_eq r from) [
        | inl same ↦
            let here = ap f same in
            let rest = at_least k (from + 1) m (omega (arith, few)) (behind_first from k some) in
            omega (arith, whole, here, rest)
        | inr other ↦
            let here = some from (omega arith) (omega arith) in
            let behind : from + 1 ≤ r = omega (arith, least, other) in
            let rest = one_of_first k (from + 1) m r (omega (arith, few)) (behind_first from k some) behind
            (omega (arith, most)) in
            omega (arith, whole, here, rest)
      ]

  -- and so is what is at a rank after them
  pub one_behind : (k from m r : ℕ) → k ≤ m → IsSomeUpTo from k → from + k ≤ r → r < from + m → f r + k ≤ sums f from m
  one_behind zero from zero r few some least most = absurd (omega (arith, least, most))
  one_behind zero from (suc m) r few some least most =
      let whole : sums f from (suc m) ≡ f from + sums f (from + 1) m = refl in
      elim (cases_eq r from) [
        | inl same ↦ let here = ap f same in omega (arith, whole, here)
        | inr other ↦
            let none : IsSomeUpTo (from + 1) zero = λ q after before. absurd (omega (arith, after, before)) in
            let behind : from + 1 + 0 ≤ r = omega (arith, least, other) in
            let rest = one_behind zero (from + 1) m r (omega arith) none behind (omega (arith, most)) in
            omega (arith, whole, rest)
      ]
  one_behind (suc k) from zero r few some least most = absurd (omega (arith, few))
  one_behind (suc k) from (suc m) r few some least most =
      let whole : sums f from (suc m) ≡ f from + sums f (from + 1) m = refl in
      let here = some from (omega arith) (omega arith) in
      let rest = one_behind k (from + 1) m r (omega (arith, few)) (behind_first from k some) (omega (arith, least))
      (omega (arith, most)) in
      omega (arith, whole, here, rest)
