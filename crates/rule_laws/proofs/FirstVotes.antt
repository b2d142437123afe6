-- What the ballots give to who comes first on them.
use Rattle.std.proofs.Common.{◌≡◌, ℕ, ◌+◌, ◌-◌, ◌*◌, ◌<◌, ◌≤◌, ◌==◌, Bool, true, false, cond, List, [], ◌∷◌}
use Rattle.std.proofs.Common.{length, get_or, All, Contains, arith, refl, ap}
use Rattle.std.proofs.Common.{sym, subst, ◌∙◌, inl, inr, suc}
use Rattle.std.proofs.Math.Nat.{add-mul}
use Rattle.std.proofs.lemmas.Bool.{cases_Bool, eqb-true}
use Rattle.std.proofs.lemmas.List.Elements.{All-head, All-tail}
use Rattle.std.proofs.lemmas.List.Sums.{sum_by-cons}
use Rattle.plain_ballots.specs.Ranking.{IsRanking}
use Rattle.candidate_roll.specs.Roll.{is_withdrawn}
use Rattle.meek_rule.specs.Rule.{Rule}
use Rattle.meek_rule.specs.Weights.{kept_under, given_under, vote_under}
use Rattle.meek_rule.proofs.WeightLemmas.{kept_under-none}
use Rattle.rule_laws.specs.Majority.{is_first, first_count}
use Rattle.rule_laws.proofs.Totals.{one_if}
use Rattle.rule_laws.proofs.Kept.{kept-whole}

-- who comes first of those not withdrawn is given the whole weight
pub first-given :
    (rule : Rule) (s : ℕ) (keeps : List ℕ) (withdrawn : List Bool) (w : ℕ) (ranks : List ℕ) (c : ℕ) → 1 ≤ s
    → w ≤ s → get_or keeps (c - 1) 0 ≡ s
    → ((r : ℕ) → Contains ranks r → is_withdrawn withdrawn r ≡ true → get_or keeps (r - 1) 0 ≡ 0)
    → is_first withdrawn ranks c ≡ true → w ≤ given_under rule s keeps w ranks c
first-given rule s keeps withdrawn w [] c pos few whole nothing first = absurd (cc)
first-given rule s keeps withdrawn w (r ∷ ranks) c pos few whole nothing first =
    elim (cases_Bool (is_withdrawn withdrawn r)) [
      | inl gone ↦
          let none : kept_under rule s keeps w r ≡ 0 =
          kept_under-none rule s keeps w r pos (nothing r (0, omega arith, refl) gone) in
          let later : is_first withdrawn ranks c ≡ true =
          sym (ap (λ (b : Bool). cond b (is_first withdrawn ranks c) (r == c)) gone) ∙ first in
          let same : w - kept_under rule s keeps w r ≡ w = omega arith in
          let rest : w ≤ given_under rule s keeps w ranks c =
          first-given rule s keeps withdrawn w ranks c pos few whole
          (λ x has. nothing x (suc has.0, omega (arith, has.1), has.2)) later in
          let here : w ≤ given_under rule s keeps (w - kept_under rule s keeps w r) ranks c =
          subst (λ (x : ℕ). w ≤ given_under rule s keeps x ranks c) (sym same) rest in
          omega arith
      | inr stays ↦
          let is : (r == c) ≡ true = sym (ap (λ (b : Bool). cond b (is_first withdrawn ranks c) (r == c)) stays) ∙ first in
          let this : r ≡ c = eqb-true _ _ is in
          let all : kept_under rule s keeps w r ≡ w =
          kept-whole rule s keeps w r pos few (ap (λ (k : ℕ). get_or keeps (k - 1) 0) this ∙ whole) in
          let here : cond (r == c) (kept_under rule s keeps w r) 0 ≡ kept_under rule s keeps w r =
          ap (λ (b : Bool). cond b (kept_under rule s keeps w r) 0) is in
          omega arith
    ]

-- and is on the ballot, and was not withdrawn
pub first-runs :
    (withdrawn : List Bool) (ranks : List ℕ) (c : ℕ) → is_first withdrawn ranks c ≡ true
    → Contains ranks c × (is_withdrawn withdrawn c ≡ false)
first-runs withdrawn [] c first = absurd (cc)
first-runs withdrawn (r ∷ ranks) c first =
    elim (cases_Bool (is_withdrawn withdrawn r)) [
      | inl gone ↦
          let later : is_first withdrawn ranks c ≡ true =
          sym (ap (λ (b : Bool). cond b (is_first withdrawn ranks c) (r == c)) gone) ∙ first in
          let rest = first-runs withdrawn ranks c later in
          ((suc rest.0.0, omega (arith, rest.0.1), rest.0.2), rest.1)
      | inr stays ↦
          let is : (r == c) ≡ true = sym (ap (λ (b : Bool). cond b (is_first withdrawn ranks c) (r == c)) stays) ∙ first in
          let this : r ≡ c = eqb-true _ _ is in
          ((0, omega arith, this), ap (is_withdrawn withdrawn) (sym this) ∙ stays)
    ]

-- what all ballots give who comes first on some
pub first-votes : (rule : Rule) (s : ℕ) (keeps : List ℕ) (withdrawn : List Bool) (ballots : List (List ℕ)) (c : ℕ)
    → All (λ ranking. is_first withdrawn ranking c ≡ true → s ≤ given_under rule s keeps s ranking c) ballots
    → first_count withdrawn ballots c * s ≤ vote_under rule s keeps ballots c
first-votes rule s keeps withdrawn [] c each = omega arith
first-votes rule s keeps withdrawn (ranking ∷ ballots) c each =
    let gives : List ℕ → Type 0 = λ x. is_first withdrawn x c ≡ true → s ≤ given_under rule s keeps s x c in
    let rest = first-votes rule s keeps withdrawn ballots c (All-tail gives ranking ballots each) in
    let votes = sum_by-cons (λ (x : List ℕ). given_under rule s keeps s x c) ranking ballots in
    let firsts = sum_by-cons (λ (x : List ℕ). cond (is_first withdrawn x c) 1 0) ranking ballots in
    let split = add-mul (cond (is_first withdrawn ranking c) 1 0) (first_count withdrawn ballots c) s in
    let turned :
    first_count withdrawn (ranking ∷ ballots) c * s
    ≡ (cond (is_first withdrawn ranking c) 1 0 + first_count withdrawn ballots c) * s =
    ap (λ (k : ℕ). k * s) firsts in
    elim (cases_Bool (is_first withdrawn ranking c)) [
      | inl first ↦
          let one : cond (is_first withdrawn ranking c) 1 0 * s ≡ 1 * s = ap (λ (b : Bool). cond b 1 0 * s) first in
          let here : s ≤ given_under rule s keeps s ranking c = All-head gives ranking ballots each first in
          omega arith
      | inr other ↦
          let none : cond (is_first withdrawn ranking c) 1 0 * s ≡ 0 * s = ap (λ (b : Bool). cond b 1 0 * s) other in
          omega arith
    ]

-- where some are first one is
pub first_somewhere : (withdrawn : List Bool) (ballots : List (List ℕ)) (c : ℕ) → 1 ≤ first_count withdrawn ballots c
    → (k : ℕ) × (k < length ballots) × (is_first withdrawn (get_or ballots k []) c ≡ true)
first_somewhere withdrawn [] c some = absurd (omega arith)
first_somewhere withdrawn (ranking ∷ ballots) c some =
    elim (cases_Bool (is_first withdrawn ranking c)) [
      | inl first ↦ (0, omega arith, first)
      | inr other ↦
          let firsts = sum_by-cons (λ (x : List ℕ). cond (is_first withdrawn x c) 1 0) ranking ballots in
          let none : one_if (is_first withdrawn ranking c) ≡ 0 = ap one_if other in
          let rest = first_somewhere withdrawn ballots c (omega arith) in
          (suc rest.0, omega (arith, rest.1), rest.2)
    ]

pub number_of : (n : ℕ) (ranking : List ℕ) (r : ℕ) → IsRanking n ranking → Contains ranking r → (1 ≤ r) × (r ≤ n)
number_of n ranking r ranks has = subst (λ (x : ℕ). (1 ≤ x) × (x ≤ n)) has.2 (ranks.numbers has.0 r has.1)
