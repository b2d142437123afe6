-- Texts pushed one after another.
use Rattle.std.proofs.Common.{◌≡◌, ◌∙◌, ℕ, List, ◌++◌, ap, append_assoc, subst}
use Rattle.std.specs.Prelude.{OnOk, Result}

-- one part more after what was pushed
pub pushed :
    (old front part before after : List ℕ) → before ≡ old ++ front → after ≡ before ++ part
    → after ≡ old ++ (front ++ part)
pushed old front part before after was more = more ∙ (ap (λ (l : List ℕ). l ++ part) was ∙ append_assoc old front part)

-- the last part, which may be refused
pub pushed_last :
    {T E : Type 0} (old front part before after : List ℕ) (r : Result T E) → before ≡ old ++ front
    → OnOk r (after ≡ before ++ part)
    → OnOk r (after ≡ old ++ (front ++ part))
pushed_last old front part before after r was more =
    subst (λ (l : List ℕ). OnOk r (after ≡ l)) (ap (λ (l : List ℕ). l ++ part) was ∙ append_assoc old front part) more
