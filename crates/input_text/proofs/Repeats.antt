-- Numbers that may not stand in a list twice.
use Rattle.std.proofs.Common.{◌≡◌, ℕ, ◌≢◌, List, ◌∷◌, ◌++◌, length, false, refl, sym, ◌∙◌, arith, get_or, ◌==◌}
use Rattle.std.specs.Prelude.{AllPairs}
use Rattle.std.specs.List.{list_any}
use Rattle.std.proofs.lemmas.Bool.{ne_eqb}
use Rattle.std.proofs.lemmas.List.{length-append, get_or_append_left, get_or_at}
use Rattle.std.proofs.lemmas.List.Elements.{All-from_get_or}
use Rattle.std.proofs.lemmas.List.Folds.{list_any_none}

-- A number that is among different ones doesn't stand before.
pub not_before :
    (before behind : List ℕ) (n : ℕ) → AllPairs (λ a b. a ≢ b) (before ++ n ∷ behind)
    → list_any (λ r. r == n) before ≡ false
not_before before behind n different =
    list_any_none (λ r. r == n) before (All-from_get_or (λ r. (r == n) ≡ false) before 0 (λ i inside.
    ne_eqb (get_or before i 0) n
    (λ same. different i (length before) 0 inside (omega (arith, length-append before (n ∷ behind)))
    (get_or_append_left before (n ∷ behind) 0 i inside ∙ same ∙ sym (get_or_at before n behind 0 (length before) refl)))))
