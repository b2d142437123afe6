-- Lists in which each caller has as many calls have as many calls in all.
use Rattle.std.proofs.Common.{◌≡◌, ◌≢◌, ℕ, zero, suc, ◌+◌, ◌<◌, ◌≤◌, ◌==◌, Bool, true, false, cond, List, []}
use Rattle.std.proofs.Common.{◌∷◌, length, filter}
use Rattle.std.proofs.Common.{All, refl, sym, ap, ◌∙◌, subst, ⊎_elim, ne_eqb, arith}
use Rattle.std.proofs.lemmas.Bool.{eq-eqb}
use Rattle.std.proofs.lemmas.Bool.Decides.{eqb_tells}
use Rattle.std.proofs.lemmas.List.Elements.{All-nil, All-cons, All-head, All-tail, All-weaker}
use Rattle.batch_core.specs.declared.entry.Entry.{Entry}
use Rattle.batch_core.specs.Histories.{own_calls}

-- the calls of callers below n, counted caller by caller
abbrev counted : ℕ → List Entry → ℕ
counted zero entries = 0
counted (suc n) entries = length (own_calls n entries) + counted n entries

own_one : (own : Bool) (e : Entry) (es : List Entry) → length (cond own (e ∷ es) es) ≡ cond own 1 0 + length es
own_one true e es = omega arith
own_one false e es = omega arith

not_below : (n : ℕ) (e : Entry) (es : List Entry) → n ≤ e.caller → counted n (e ∷ es) ≡ counted n es
not_below zero e es above = refl
not_below (suc n) e es above =
    let other : (e.caller == n) ≡ false = ne_eqb e.caller n (λ same. omega (arith, same, above)) in
    let none = ap {B = ℕ} (λ (t : Bool). cond t 1 0) other in
    omega (arith, own_one (e.caller == n) e (own_calls n es), none, not_below n e es (omega (arith, above)))

below : (n : ℕ) (e : Entry) (es : List Entry) → e.caller < n → counted n (e ∷ es) ≡ 1 + counted n es
below zero e es under = absurd (omega (arith, under))
below (suc n) e es under =
    let step = own_one (e.caller == n) e (own_calls n es) in
    ⊎_elim
    (λ (same : ((e.caller == n) ≡ true) × (e.caller ≡ n)).
    let one = ap {B = ℕ} (λ (t : Bool). cond t 1 0) same.0 in
    let is = same.1 in
    omega (arith, step, one, not_below n e es (omega (arith, is))))
    (λ (other : ((e.caller == n) ≡ false) × (e.caller ≢ n)).
    let none = ap {B = ℕ} (λ (t : Bool). cond t 1 0) other.0 in
    let differs = other.1 in
    omega (arith, step, none, below n e es (omega (arith, under, differs))))
    (eqb_tells e.caller n)

nobody : (n : ℕ) → counted n [] ≡ 0
nobody zero = refl
nobody (suc n) = omega (arith, nobody n)

all_counted : (n : ℕ) (entries : List Entry) → All (λ e. e.caller < n) entries → counted n entries ≡ length entries
all_counted n [] all = nobody n
all_counted n (e ∷ es) all =
    let P = λ (x : Entry). x.caller < n in
    omega (arith, below n e es (All-head P e es all), all_counted n es (All-tail P e es all))

-- a number above those of all callers
abbrev bound : List Entry → ℕ
bound [] = 0
bound (e ∷ es) = suc e.caller + bound es

bounded : (n : ℕ) (entries : List Entry) → bound entries ≤ n → All (λ e. e.caller < n) entries
bounded n [] most = All-nil (λ (x : Entry). x.caller < n)
bounded n (e ∷ es) most =
    All-cons (λ (x : Entry). x.caller < n) e es (omega (arith, most)) (bounded n es (omega (arith, most)))

counted_alike :
    (n : ℕ) (one other : List Entry)
    → ((caller : ℕ) → length (own_calls caller one) ≡ length (own_calls caller other))
    → counted n one ≡ counted n other
counted_alike zero one other alike = refl
counted_alike (suc n) one other alike = omega (arith, alike n, counted_alike n one other alike)

pub as_many : (one other : List Entry) → ((caller : ℕ) → length (own_calls caller one) ≡ length (own_calls caller other))
    → length one ≡ length other
as_many one other alike =
    let n = bound one + bound other in
    sym (all_counted n one (bounded n one (omega arith)))
    ∙ (counted_alike n one other alike ∙ all_counted n other (bounded n other (omega arith)))
