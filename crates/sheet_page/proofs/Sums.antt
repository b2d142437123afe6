-- Sums over the places from one on.
use Rattle.std.proofs.Common.{◌≡◌, ◌∙◌, ap, arith, ℕ, suc, ◌+◌, ◌-◌, ◌<◌, ◌≤◌, Bool, true, false, cond, zero-add}
use Rattle.std.specs.Prelude.{count_by, sum_by}
use Rattle.std.specs.List.{range_with_len}
use Rattle.std.proofs.lemmas.List.Sums.{sum_by-cons}

-- the first of them, and the others
pub sum_here : (f : ℕ → ℕ) (p n : ℕ) → p < n
    → sum_by f (range_with_len p (n - p)) ≡ f p + sum_by f (range_with_len (p + 1) (n - (p + 1)))
sum_here f p n below =
    let more : n - p ≡ suc (n - (p + 1)) = omega arith in
    ap (λ k. sum_by f (range_with_len p k)) more ∙ sum_by-cons f p (range_with_len (p + 1) (n - (p + 1)))

-- no places are left
pub sum_past : (f : ℕ → ℕ) (p n : ℕ) → n ≤ p → sum_by f (range_with_len p (n - p)) ≡ 0
sum_past f p n past =
    let none : n - p ≡ 0 = omega arith in
    ap (λ k. sum_by f (range_with_len p k)) none

module _ (test : ℕ → Bool) where
  pub count_yes : (p n : ℕ) → p < n → test p ≡ true
      → count_by test (range_with_len p (n - p)) ≡ 1 + count_by test (range_with_len (p + 1) (n - (p + 1)))
  count_yes p n below is =
      sum_here (λ q. cond (test q) 1 0) p n below
      ∙ ap (λ (b : Bool). cond b 1 0 + count_by test (range_with_len (p + 1) (n - (p + 1)))) is

  pub count_no : (p n : ℕ) → p < n → test p ≡ false
      → count_by test (range_with_len p (n - p)) ≡ count_by test (range_with_len (p + 1) (n - (p + 1)))
  count_no p n below is =
      sum_here (λ q. cond (test q) 1 0) p n below
      ∙ ap (λ (b : Bool). cond b 1 0 + count_by test (range_with_len (p + 1) (n - (p + 1)))) is
      ∙ zero-add (count_by test (range_with_len (p + 1) (n - (p + 1))))

  pub count_past : (p n : ℕ) → n ≤ p → count_by test (range_with_len p (n - p)) ≡ 0
  count_past p n past = sum_past (λ q. cond (test q) 1 0) p n past
