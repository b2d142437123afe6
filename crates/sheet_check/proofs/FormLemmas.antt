-- At how many places a text has the form of a sheet.
use Rattle.std.proofs.Common.{◌≡◌, ℕ, ◌<◌, ◌≤◌, Bool, true, false, List, arith, inl, inr, subst}
use Rattle.std.specs.Prelude.{MatchBool}
use Rattle.std.proofs.lemmas.Bool.{cases_lt}
use Rattle.sheet_check.specs.Judged.{HasSomeForm, IsForm, IsMalformed}

pub has_one : (bytes : List ℕ) (places : ℕ) → 6 ≤ places → places ≤ 9 → IsForm places bytes → HasSomeForm bytes
has_one bytes places from to form = (places, from, to, form)

-- The four numbers are all.
pub malformed :
    (bytes : List ℕ) → ¬ IsForm 9 bytes → ¬ IsForm 8 bytes → ¬ IsForm 7 bytes → ¬ IsForm 6 bytes → IsMalformed bytes
malformed bytes nine eight seven six places from to form =
    down 9 nine
    (λ below_nine. down 8 eight
    (λ below_eight. down 7 seven
    (λ below_seven. down 6 six (λ below_six. omega (arith, from, below_six)) (omega (arith, below_seven)))
    (omega (arith, below_eight)))
    (omega (arith, below_nine))) to
  where
    -- a number of at most n places is n, or less
    down : (n : ℕ) → ¬ IsForm n bytes → (places < n → ⊥) → places ≤ n → ⊥
    down n none less most =
        elim (cases_lt places n) [
          | inl lt ↦ less lt
          | inr le ↦
              let same : places ≡ n = omega (arith, most, le) in
              none (subst (λ (k : ℕ). IsForm k bytes) same form)
        ]

-- what a test says that was answered by yes, and by no
pub said_yes : (answer : Bool) (P Q : Type 0) → MatchBool answer P Q → answer ≡ true → P
said_yes true P Q says is = says
said_yes false P Q says is = absurd cc

pub said_no : (answer : Bool) (P Q : Type 0) → MatchBool answer P Q → answer ≡ false → Q
said_no true P Q says is = absurd cc
said_no false P Q says is = says
