-- The numbers of callers that are out: lists that fall.
use Rattle.std.proofs.Common.{◌≡◌, ◌≢◌, ℕ, ◌+◌, ◌-◌, ◌<◌, ◌≤◌, true, false, cond, ◌==◌, ◌||◌, List, [], ◌∷◌}
use Rattle.std.proofs.Common.{◌++◌, length, refl, sym, ap, ◌∙◌, subst, ⊎_elim, arith, ne_eqb}
use Rattle.std.proofs.lemmas.Bool.Decides.{eqb_tells}
use Rattle.turn_lock.specs.Numbers.{has, without}
use Rattle.shard_office.specs.Clerk.{AreFalling}

pub falling_wider : (b c : ℕ) (qs : List ℕ) → b ≤ c → AreFalling b qs → AreFalling c qs
falling_wider b c [] le f = tt
falling_wider b c (q ∷ qs) le f = (f.0, (let h = f.1 in omega arith), f.2)

pub has_below : (p b : ℕ) (qs : List ℕ) → AreFalling b qs → has p qs ≡ true → (1 ≤ p) × (p < b)
has_below p b [] f h = absurd (cc h)
has_below p b (q ∷ qs) f h = ⊎_elim
    (λ (t : ((p == q) ≡ true) × (p ≡ q)). let one = f.0 in let lt = f.1 in let e = t.1 in (omega arith, omega arith))
    (λ (t : ((p == q) ≡ false) × (p ≢ q)).
    let there : has p qs ≡ true = subst (λ c. (c || has p qs) ≡ true) t.0 h in
    let below = has_below p q qs f.2 there in
    let lt = f.1 in (below.0, omega arith))
    (eqb_tells p q)

without_none : (p b : ℕ) (qs : List ℕ) → AreFalling b qs → b ≤ p → without p qs ≡ qs
without_none p b [] f le = refl
without_none p b (q ∷ qs) f le =
    let lt = f.1 in
    let ne : p ≢ q = λ e. omega arith in
    ap (λ c. cond c (without p qs) (q ∷ without p qs)) (ne_eqb p q ne)
    ∙ ap (λ l. q ∷ l) (without_none p q qs f.2 (omega arith))

pub one_fewer : (p b : ℕ) (qs : List ℕ) → AreFalling b qs → has p qs ≡ true → length (without p qs) + 1 ≡ length qs
one_fewer p b [] f h = absurd (cc h)
one_fewer p b (q ∷ qs) f h = ⊎_elim
    (λ (t : ((p == q) ≡ true) × (p ≡ q)).
    let e = t.1 in
    let same : without p (q ∷ qs) ≡ qs =
    ap (λ c. cond c (without p qs) (q ∷ without p qs)) t.0 ∙ without_none p q qs f.2 (omega arith) in
    let l = ap length same in omega arith)
    (λ (t : ((p == q) ≡ false) × (p ≢ q)).
    let there : has p qs ≡ true = subst (λ c. (c || has p qs) ≡ true) t.0 h in
    let same : without p (q ∷ qs) ≡ q ∷ without p qs = ap (λ c. cond c (without p qs) (q ∷ without p qs)) t.0 in
    let l = ap length same in
    let ih = one_fewer p q qs f.2 there in omega arith)
    (eqb_tells p q)

pub falling_without : (p b : ℕ) (qs : List ℕ) → AreFalling b qs → AreFalling b (without p qs)
falling_without p b [] f = tt
falling_without p b (q ∷ qs) f = ⊎_elim
    (λ (t : ((p == q) ≡ true) × (p ≡ q)). subst (λ c. AreFalling b (cond c (without p qs) (q ∷ without p qs)))
    (sym t.0) (let lt = f.1 in falling_wider q b (without p qs) (omega arith) (falling_without p q qs f.2)))
    (λ (t : ((p == q) ≡ false) × (p ≢ q)). subst
    (λ c. AreFalling b (cond c (without p qs) (q ∷ without p qs))) (sym t.0)
    (f.0, f.1, falling_without p q qs f.2))
    (eqb_tells p q)

pub gone_after : (p : ℕ) (qs : List ℕ) → has p (without p qs) ≡ false
gone_after p [] = refl
gone_after p (q ∷ qs) = ⊎_elim
    (λ (t : ((p == q) ≡ true) × (p ≡ q)). subst
    (λ c. has p (cond c (without p qs) (q ∷ without p qs)) ≡ false) (sym t.0) (gone_after p qs))
    (λ (t : ((p == q) ≡ false) × (p ≢ q)). subst
    (λ c. has p (cond c (without p qs) (q ∷ without p qs)) ≡ false) (sym t.0)
    (ap (λ c. c || has p (without p qs)) t.0 ∙ gone_after p qs))
    (eqb_tells p q)

pub gone_still : (p r : ℕ) (qs : List ℕ) → has p qs ≡ false → has p (without r qs) ≡ false
gone_still p r [] h = refl
gone_still p r (q ∷ qs) h = ⊎_elim
    (λ (u : ((p == q) ≡ true) × (p ≡ q)). absurd
    (let bad : true ≡ false = subst (λ c. (c || has p qs) ≡ false) u.0 h in cc bad))
    (λ (u : ((p == q) ≡ false) × (p ≢ q)).
    let there : has p qs ≡ false = subst (λ c. (c || has p qs) ≡ false) u.0 h in
    ⊎_elim
    (λ (t : ((r == q) ≡ true) × (r ≡ q)). subst
    (λ c. has p (cond c (without r qs) (q ∷ without r qs)) ≡ false) (sym t.0) (gone_still p r qs there))
    (λ (t : ((r == q) ≡ false) × (r ≢ q)). subst
    (λ c. has p (cond c (without r qs) (q ∷ without r qs)) ≡ false) (sym t.0)
    (ap (λ c. c || has p (without r qs)) u.0 ∙ gone_still p r qs there))
    (eqb_tells r q))
    (eqb_tells p q)

pub has-append : (p q : ℕ) (qs : List ℕ) → has p (qs ++ q ∷ []) ≡ false → (has p qs ≡ false) × (p ≢ q)
has-append p q [] h = ⊎_elim
    (λ (t : ((p == q) ≡ true) × (p ≡ q)). absurd
    (let bad : true ≡ false = subst (λ c. (c || false) ≡ false) t.0 h in cc bad))
    (λ (t : ((p == q) ≡ false) × (p ≢ q)). (refl, t.1))
    (eqb_tells p q)
has-append p q (r ∷ rs) h = ⊎_elim
    (λ (t : ((p == r) ≡ true) × (p ≡ r)). absurd
    (let bad : true ≡ false = subst (λ c. (c || has p (rs ++ q ∷ [])) ≡ false) t.0 h in cc bad))
    (λ (t : ((p == r) ≡ false) × (p ≢ r)).
    let ih = has-append p q rs (subst (λ c. (c || has p (rs ++ q ∷ [])) ≡ false) t.0 h) in
    (ap (λ c. c || has p rs) t.0 ∙ ih.0, ih.1))
    (eqb_tells p r)

pub falling_length : (b : ℕ) (qs : List ℕ) → AreFalling (b + 1) qs → length qs ≤ b
falling_length b [] f = omega arith
falling_length b (q ∷ qs) f =
    let lt = f.1 in
    let one = f.0 in
    let ih = falling_length (q - 1) qs (subst (λ n. AreFalling n qs) (let e : q ≡ q - 1 + 1 = omega arith in e) f.2) in
    omega arith

-- somebody is out where a number is
pub some_out : (p : ℕ) (qs : List ℕ) → has p qs ≡ true → 1 ≤ length qs
some_out p [] h = absurd (cc h)
some_out p (q ∷ qs) h = omega arith
