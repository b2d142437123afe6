-- Two texts have one first difference.
use Rattle.std.proofs.Common.{◌≡◌, ℕ, ◌<◌, List, arith, inl, inr}
use Rattle.std.proofs.lemmas.Bool.{cases_lt}
use Rattle.sheet_check.specs.Difference.{IsFirstDifference}

not_before :
    (a b : List ℕ) (m n : ℕ) (one : IsFirstDifference a b m) (other : IsFirstDifference a b n)
    → one.line < other.line → ⊥
not_before a b m n one other before = one.differs (other.same_before one.line before)

pub difference_once : (a b : List ℕ) (m n : ℕ) → IsFirstDifference a b m → IsFirstDifference a b n → m ≡ n
difference_once a b m n one other =
    elim (cases_lt one.line other.line) [
      | inl lt ↦ absurd (not_before a b m n one other lt)
      | inr le ↦ elim (cases_lt other.line one.line) [
        | inl lt ↦ absurd (not_before a b n m other one lt)
        | inr ge ↦ omega (arith, one.number, other.number, le, ge)
      ]
    ]
