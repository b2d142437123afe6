-- No more is given than there are ballots.
use Rattle.std.proofs.Common.{◌≡◌, ◌≢◌, ℕ, ◌+◌, ◌-◌, ◌*◌, ◌<◌, ◌≤◌, ◌==◌, cond, List, [], ◌∷◌, length, get_or}
use Rattle.std.proofs.Common.{take, slice_index, sum, Contains, arith, refl, ap, sym, subst, ◌∙◌, inl, inr}
use Rattle.std.proofs.Common.{zero, suc, add-one}
use Rattle.std.specs.List.{All}
use Rattle.std.proofs.Math.Nat.{add-mul}
use Rattle.std.proofs.lemmas.Bool.{cases_eq, eq-eqb, ne_eqb}
use Rattle.std.proofs.lemmas.List.Sums.{sum_by-cons}
use Rattle.std.proofs.lemmas.List.Elements.{Contains-get_or}
use Rattle.meek_rule.specs.Rule.{Rule}
use Rattle.meek_rule.specs.Weights.{kept_under, weight_under, given_under, vote_under, votes_under}
use Rattle.meek_rule.specs.Places.{each_place}
use Rattle.meek_rule.proofs.PlaceLemmas.{sum_more}
use Rattle.meek_rule.proofs.WeightLemmas.{kept_under-le, kept_under-none}

pub sum_suc : (f : ℕ → ℕ) (n : ℕ) → sum (each_place (suc n) f) ≡ sum (each_place n f) + f n
sum_suc f n = subst (λ (m : ℕ). sum (each_place m f) ≡ sum (each_place n f) + f n) (add-one n) (sum_more f n)

-- a sum of sums
sum_add :
    (n : ℕ) (f g h : ℕ → ℕ) → ((p : ℕ) → h p ≡ f p + g p)
    → sum (each_place n h) ≡ sum (each_place n f) + sum (each_place n g)
sum_add zero f g h each = refl
sum_add (suc n) f g h each =
    let before = sum_add n f g h each in
    let one = sum_suc f n in
    let two = sum_suc g n in
    let both = sum_suc h n in
    let here : h n ≡ f n + g n = each n in
    omega arith

sum_nothing : (n : ℕ) (f : ℕ → ℕ) → ((p : ℕ) → f p ≡ 0) → sum (each_place n f) ≡ 0
sum_nothing zero f each = refl
sum_nothing (suc n) f each =
    let before = sum_nothing n f each in
    let more = sum_suc f n in
    let here : f n ≡ 0 = each n in
    omega arith

-- what one candidate has at its place
abbrev pub at_place : (r k : ℕ) → ℕ → ℕ
at_place r k p = cond (r == p + 1) k 0

none_yet : (n r k : ℕ) → n < r → sum (each_place n (at_place r k)) ≡ 0
none_yet zero r k below = refl
none_yet (suc n) r k below =
    let before = none_yet n r k (omega arith) in
    let more = sum_suc (at_place r k) n in
    let here : at_place r k n ≡ 0 = ap (λ b. cond b k 0) (ne_eqb r (n + 1) (λ same. omega arith)) in
    omega arith

one_place : (n r k : ℕ) → sum (each_place n (at_place r k)) ≤ k
one_place zero r k = omega arith
one_place (suc n) r k =
    let more = sum_suc (at_place r k) n in
    elim (cases_eq r (n + 1)) [
      | inl same ↦
          let before : sum (each_place n (at_place r k)) ≡ 0 = none_yet n r k (omega arith) in
          let here : at_place r k n ≡ k = ap (λ b. cond b k 0) (eq-eqb r (n + 1) same) in
          omega arith
      | inr other ↦
          let before : sum (each_place n (at_place r k)) ≤ k = one_place n r k in
          let here : at_place r k n ≡ 0 = ap (λ b. cond b k 0) (ne_eqb r (n + 1) other) in
          omega arith
    ]

-- a ballot gives its weight at most
pub given_by_ballot-le :
    (rule : Rule) (s : ℕ) (keeps : List ℕ) (w : ℕ) (ranks : List ℕ) (n : ℕ) → 1 ≤ s → All (λ k. k ≤ s) keeps
    → sum (each_place n (λ p. given_under rule s keeps w ranks (p + 1))) ≤ w
given_by_ballot-le rule s keeps w [] n pos bound =
    let none = sum_nothing n (λ p. given_under rule s keeps w [] (p + 1)) (λ p. refl) in omega arith
given_by_ballot-le rule s keeps w (r ∷ ranks) n pos bound =
    let k : ℕ = kept_under rule s keeps w r in
    let part : k ≤ w = kept_under-le rule s keeps w r pos bound in
    let rest : sum (each_place n (λ p. given_under rule s keeps (w - k) ranks (p + 1))) ≤ w - k =
    given_by_ballot-le rule s keeps (w - kept_under rule s keeps w r) ranks n pos bound in
    let here : sum (each_place n (at_place r k)) ≤ k = one_place n r k in
    let split :
    sum (each_place n (λ p. given_under rule s keeps w (r ∷ ranks) (p + 1)))
    ≡ sum (each_place n (at_place r k))
    + sum (each_place n (λ p. given_under rule s keeps (w - k) ranks (p + 1))) =
    sum_add n (at_place r k) (λ p. given_under rule s keeps (w - k) ranks (p + 1))
    (λ p. given_under rule s keeps w (r ∷ ranks) (p + 1)) (λ p. refl) in
    omega arith

-- all votes together are at most one for each ballot
pub sum-votes-le :
    (rule : Rule) (s : ℕ) (keeps : List ℕ) (ballots : List (List ℕ)) (n : ℕ) → 1 ≤ s → All (λ k. k ≤ s) keeps
    → sum (votes_under rule s keeps ballots n) ≤ length ballots * s
sum-votes-le rule s keeps [] n pos bound =
    let none : sum (votes_under rule s keeps [] n) ≡ 0 =
    sum_nothing n (λ p. vote_under rule s keeps [] (p + 1)) (λ p. refl) in
    omega arith
sum-votes-le rule s keeps (b ∷ ballots) n pos bound =
    let rest : sum (votes_under rule s keeps ballots n) ≤ length ballots * s =
    sum-votes-le rule s keeps ballots n pos bound in
    let here : sum (each_place n (λ p. given_under rule s keeps s b (p + 1))) ≤ s =
    given_by_ballot-le rule s keeps s b n pos bound in
    let split :
    sum (votes_under rule s keeps (b ∷ ballots) n)
    ≡ sum (each_place n (λ p. given_under rule s keeps s b (p + 1)))
    + sum (votes_under rule s keeps ballots n) =
    sum_add n (λ p. given_under rule s keeps s b (p + 1)) (λ p. vote_under rule s keeps ballots (p + 1))
    (λ p. vote_under rule s keeps (b ∷ ballots) (p + 1))
    (λ p. sum_by-cons (λ (r : List ℕ). given_under rule s keeps s r (p + 1)) b ballots) in
    let more : suc (length ballots) * s ≡ length ballots * s + 1 * s =
    ap (λ k. k * s) (sym (add-one (length ballots))) ∙ add-mul (length ballots) 1 s in
    omega arith

-- who keeps nothing is given nothing
pub given-none :
    (rule : Rule) (s : ℕ) (keeps : List ℕ) (w : ℕ) (ranks : List ℕ) (c : ℕ) → 1 ≤ s
    → slice_index keeps (c - 1) ≡ 0 → given_under rule s keeps w ranks c ≡ 0
given-none rule s keeps w [] c pos out = refl
given-none rule s keeps w (r ∷ ranks) c pos out =
    let rest : given_under rule s keeps (w - kept_under rule s keeps w r) ranks c ≡ 0 =
    given-none rule s keeps (w - kept_under rule s keeps w r) ranks c pos out in
    elim (cases_eq r c) [
      | inl same ↦
          let at : get_or keeps (r - 1) 0 ≡ 0 = ap (λ k. get_or keeps (k - 1) 0) same ∙ out in
          let nothing : kept_under rule s keeps w r ≡ 0 = kept_under-none rule s keeps w r pos at in
          let here : cond (r == c) (kept_under rule s keeps w r) 0 ≡ kept_under rule s keeps w r =
          ap (λ b. cond b (kept_under rule s keeps w r) 0) (eq-eqb r c same) in
          omega arith
      | inr other ↦
          let here : cond (r == c) (kept_under rule s keeps w r) 0 ≡ 0 =
          ap (λ b. cond b (kept_under rule s keeps w r) 0) (ne_eqb r c other) in
          omega arith
    ]

-- who is not ranked is given nothing
pub given-absent :
    (rule : Rule) (s : ℕ) (keeps : List ℕ) (w : ℕ) (ranks : List ℕ) (c : ℕ)
    → ((k : ℕ) → k < length ranks → get_or ranks k 0 ≢ c) → given_under rule s keeps w ranks c ≡ 0
given-absent rule s keeps w [] c absent = refl
given-absent rule s keeps w (r ∷ ranks) c absent =
    let here : cond (r == c) (kept_under rule s keeps w r) 0 ≡ 0 =
    ap (λ b. cond b (kept_under rule s keeps w r) 0) (ne_eqb r c (absent 0 (omega arith))) in
    let rest : given_under rule s keeps (w - kept_under rule s keeps w r) ranks c ≡ 0 =
    given-absent rule s keeps (w - kept_under rule s keeps w r) ranks c
    (λ k below. absent (suc k) (omega arith)) in
    omega arith

pub given-not_ranked :
    (rule : Rule) (s : ℕ) (keeps : List ℕ) (w : ℕ) (ranks : List ℕ) (c : ℕ) → ¬ (Contains ranks c)
    → given_under rule s keeps w ranks c ≡ 0
given-not_ranked rule s keeps w ranks c none =
    given-absent rule s keeps w ranks c
    (λ k below same. none (subst (Contains ranks) same (Contains-get_or ranks k 0 below)))

-- who is ranked once is given what it keeps of the weight that is left at its place
pub given-at_place :
    (rule : Rule) (s : ℕ) (keeps : List ℕ) (w : ℕ) (ranks : List ℕ) (i c : ℕ) → i < length ranks
    → get_or ranks i 0 ≡ c → ((k : ℕ) → k < length ranks → get_or ranks k 0 ≡ c → k ≡ i)
    → given_under rule s keeps w ranks c
    ≡ kept_under rule s keeps (weight_under rule s keeps w (take i ranks)) c
given-at_place rule s keeps w [] i c below at once = absurd (omega arith)
given-at_place rule s keeps w (r ∷ ranks) zero c below at once =
    let here : cond (r == c) (kept_under rule s keeps w r) 0 ≡ kept_under rule s keeps w c =
    ap (λ b. cond b (kept_under rule s keeps w r) 0) (eq-eqb r c at)
    ∙ ap (kept_under rule s keeps w) at in
    let rest : given_under rule s keeps (w - kept_under rule s keeps w r) ranks c ≡ 0 =
    given-absent rule s keeps (w - kept_under rule s keeps w r) ranks c
    (λ k less same. (let one = once (suc k) (omega arith) same in omega arith)) in
    omega arith
given-at_place rule s keeps w (r ∷ ranks) (suc i) c below at once =
    let here : cond (r == c) (kept_under rule s keeps w r) 0 ≡ 0 =
    ap (λ b. cond b (kept_under rule s keeps w r) 0)
    (ne_eqb r c (λ same. (let first = once 0 (omega arith) same in omega arith))) in
    let rest :
    given_under rule s keeps (w - kept_under rule s keeps w r) ranks c
    ≡ kept_under rule s keeps
    (weight_under rule s keeps (w - kept_under rule s keeps w r) (take i ranks)) c =
    given-at_place rule s keeps (w - kept_under rule s keeps w r) ranks i c (omega arith) at
    (λ k less same. (let later = once (suc k) (omega arith) same in omega arith)) in
    omega arith
