-- Lists of places.
use Rattle.std.proofs.Common.{◌≡◌, ◌∙◌, ap, arith, ℕ, suc, ◌+◌, ◌-◌, ◌<◌, ◌≤◌, ◌||◌, ◌∷◌, [], Bool, true}
use Rattle.std.proofs.Common.{false, cond, zero-add}
use Rattle.std.specs.Prelude.{count_by}
use Rattle.std.specs.List.{range_with_len, list_any}
use Rattle.std.proofs.lemmas.List.Sums.{sum_by-cons}

-- the places from one on
pub from_here : (p n : ℕ) → p < n → range_with_len p (n - p) ≡ p ∷ range_with_len (p + 1) (n - (p + 1))
from_here p n below =
    let e : n - p ≡ suc (n - (p + 1)) = omega arith in
    ap (range_with_len p) e

-- no places are left
pub past_all : (p n : ℕ) → n ≤ p → range_with_len p (n - p) ≡ []
past_all p n past =
    let e : n - p ≡ 0 = omega arith in
    ap (range_with_len p) e

module _ (test : ℕ → Bool) where
  pub count_yes :
      (p n : ℕ) → p < n → test p ≡ true
      → count_by test (range_with_len p (n - p)) ≡ 1 + count_by test (range_with_len (p + 1) (n - (p + 1)))
  count_yes p n below is =
      let rest = range_with_len (p + 1) (n - (p + 1)) in
      ap (count_by test) (from_here p n below)
      ∙ sum_by-cons (λ q. cond (test q) 1 0) p rest
      ∙ ap (λ (b : Bool). cond b 1 0 + count_by test rest) is

  pub count_no :
      (p n : ℕ) → p < n → test p ≡ false
      → count_by test (range_with_len p (n - p)) ≡ count_by test (range_with_len (p + 1) (n - (p + 1)))
  count_no p n below is =
      let rest = range_with_len (p + 1) (n - (p + 1)) in
      ap (count_by test) (from_here p n below)
      ∙ sum_by-cons (λ q. cond (test q) 1 0) p rest
      ∙ ap (λ (b : Bool). cond b 1 0 + count_by test rest) is
      ∙ zero-add (count_by test rest)

  pub count_past : (p n : ℕ) → n ≤ p → count_by test (range_with_len p (n - p)) ≡ 0
  count_past p n past = ap (count_by test) (past_all p n past)

  pub any_yes : (p n : ℕ) → p < n → test p ≡ true → list_any test (range_with_len p (n - p)) ≡ true
  any_yes p n below is =
      let rest = list_any test (range_with_len (p + 1) (n - (p + 1))) in
      ap (list_any test) (from_here p n below) ∙ ap (λ (b : Bool). b || rest) is

  pub any_no :
      (p n : ℕ) → p < n → test p ≡ false
      → list_any test (range_with_len p (n - p)) ≡ list_any test (range_with_len (p + 1) (n - (p + 1)))
  any_no p n below is =
      let rest = list_any test (range_with_len (p + 1) (n - (p + 1))) in
      ap (list_any test) (from_here p n below) ∙ ap (λ (b : Bool). b || rest) is

  pub any_past : (p n : ℕ) → n ≤ p → list_any test (range_with_len p (n - p)) ≡ false
  any_past p n past = ap (list_any test) (past_all p n past)
