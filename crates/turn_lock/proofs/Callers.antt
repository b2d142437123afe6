-- Which numbers a list of caller numbers has.
use Rattle.std.proofs.Common.{◌≡◌, ◌≢◌, ◌⊎◌, ℕ, true, false, eqb, cond, ◌||◌, List, [], ◌∷◌, refl, sym, ap}
use Rattle.std.proofs.Common.{◌∙◌, subst, inl, inr, ⊎_elim, arith, eq-eqb, ne_eqb}
use mathlib.Core.Logic.{dite}
use native.Mathlib.Decide.{ℕ_discrete}
use Rattle.std.proofs.lemmas.Bool.Decides.{nat_tests}
use Rattle.turn_lock.specs.Numbers.{has, without}

pub has-more : (p q : ℕ) (qs : List ℕ) → has p qs ≡ true → has p (q ∷ qs) ≡ true
has-more p q qs h = grind (arith, nat_tests)

pub has-here : (p : ℕ) (qs : List ℕ) → has p (p ∷ qs) ≡ true
has-here p qs = grind (arith, nat_tests)

pub has-cases : (p q : ℕ) (qs : List ℕ) → has p (q ∷ qs) ≡ true → (p ≡ q) ⊎ (has p qs ≡ true)
has-cases p q qs h = dite (ℕ_discrete p q) (λ e. inl e) (λ ne. inr (grind (arith, nat_tests)))

pub has-fewer : (p q : ℕ) (qs : List ℕ) → has p (q ∷ qs) ≡ false → has p qs ≡ false
has-fewer p q qs h = grind (arith, nat_tests)

-- what `without` makes of the first number that it meets
without-cases :
    (P : List ℕ → Type 0) (c q : ℕ) (qs : List ℕ) → (c ≡ q → P (without c qs))
    → (c ≢ q → P (q ∷ without c qs)) → P (without c (q ∷ qs))
without-cases P c q qs hit miss = dite (ℕ_discrete c q)
    (λ e. subst (λ b. P (cond b (without c qs) (q ∷ without c qs))) (sym (eq-eqb c q e)) (hit e))
    (λ n. subst (λ b. P (cond b (without c qs) (q ∷ without c qs))) (sym (ne_eqb c q n)) (miss n))

has-else : (p q : ℕ) (qs : List ℕ) → p ≢ q → has p (q ∷ qs) ≡ has p qs
has-else p q qs ne = subst (λ b. (b || has p qs) ≡ has p qs) (sym (ne_eqb p q ne)) refl

pub has-without : (p c : ℕ) (qs : List ℕ) → p ≢ c → has p (without c qs) ≡ has p qs
has-without p c [] ne = refl
has-without p c (q ∷ qs) ne =
    let r = has-without p c qs ne in
    without-cases (λ l. has p l ≡ has p (q ∷ qs)) c q qs
    (λ e. r ∙ sym (has-else p q qs (λ h. ne (h ∙ sym e))))
    (λ _. ap (λ b. eqb p q || b) r)

pub without-has : (p c : ℕ) (qs : List ℕ) → has p (without c qs) ≡ true → has p qs ≡ true
without-has p c [] h = h
without-has p c (q ∷ qs) h =
    without-cases (λ l. has p l ≡ true → has p (q ∷ qs) ≡ true) c q qs
    (λ _ t. has-more p q qs (without-has p c qs t))
    (λ _ u. ⊎_elim
    (λ (e : p ≡ q). subst (λ z. has z (q ∷ qs) ≡ true) (sym e) (has-here q qs))
    (λ (t : has p (without c qs) ≡ true). has-more p q qs (without-has p c qs t))
    (has-cases p q (without c qs) u))
    h
