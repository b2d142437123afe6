-- What a ballot gives and what it has left after its last rank are together its weight.
use Rattle.std.proofs.Common.{◌≡◌, ℕ, ◌+◌, ◌-◌, ◌*◌, ◌≤◌, ◌==◌, cond, List, [], ◌∷◌, length, sum, All}
use Rattle.std.proofs.Common.{arith, refl, ap, sym, subst, ◌∙◌, inl, inr, zero, suc, add-one}
use Rattle.std.proofs.Math.Nat.{add-mul}
use Rattle.std.proofs.lemmas.Bool.{cases_eq, eq-eqb, ne_eqb}
use Rattle.std.proofs.lemmas.List.Elements.{All-head, All-tail}
use Rattle.std.proofs.lemmas.List.Sums.{sum_by-cons}
use Rattle.fixed_place.specs.Rounding.{scale}
use Rattle.fixed_place.proofs.RoundingLemmas.{scale_pos}
use Rattle.plain_ballots.specs.Ranking.{IsRanking}
use Rattle.meek_rule.specs.Rule.{Rule}
use Rattle.meek_rule.specs.Weights.{kept_under, weight_under, given_under, vote_under, votes_under}
use Rattle.meek_rule.proofs.WeightLemmas.{kept_under-le}
use Rattle.meek_count.proofs.WholeCount.{keeps-le, length-opening}
use Rattle.rule_laws.specs.Exhausted.{NothingVanishes, exhausted}
use Rattle.rule_laws.proofs.Totals.{sum-total, total, total-add, total-none, total-same}
use Rattle.rule_laws.proofs.EachRow.{count-each}

-- what one of n candidates has at its place is all that they have of it
total-one : (n r k : ℕ) → 1 ≤ r → r ≤ n → total n (λ p. cond (r == p + 1) k 0) ≡ k
total-one zero r k some within = absurd (omega arith)
total-one (suc n) r k some within =
    elim (cases_eq r (n + 1)) [
      | inl same ↦
          let before : total n (λ p. cond (r == p + 1) k 0) ≡ 0 =
          total-none n (λ p. cond (r == p + 1) k 0)
          (λ p inside. ap (λ b. cond b k 0) (ne_eqb r (p + 1) (λ e. omega arith))) in
          let here : cond (r == n + 1) k 0 ≡ k = ap (λ b. cond b k 0) (eq-eqb r (n + 1) same) in
          omega arith
      | inr other ↦
          let before : total n (λ p. cond (r == p + 1) k 0) ≡ k = total-one n r k some (omega arith) in
          let here : cond (r == n + 1) k 0 ≡ 0 = ap (λ b. cond b k 0) (ne_eqb r (n + 1) other) in
          omega arith
    ]

given-and_left : (rule : Rule) (s : ℕ) (keeps : List ℕ) (w : ℕ) (ranks : List ℕ) (n : ℕ) → 1 ≤ s → All (λ k. k ≤ s) keeps
    → All (λ r. (1 ≤ r) × (r ≤ n)) ranks
    → total n (λ p. given_under rule s keeps w ranks (p + 1)) + weight_under rule s keeps w ranks ≡ w
given-and_left rule s keeps w [] n pos bound numbers =
    let none = total-none n (λ p. given_under rule s keeps w [] (p + 1)) (λ p inside. refl) in omega arith
given-and_left rule s keeps w (r ∷ ranks) n pos bound numbers =
    let k : ℕ = kept_under rule s keeps w r in
    let part : k ≤ w = kept_under-le rule s keeps w r pos bound in
    let number : (1 ≤ r) × (r ≤ n) = All-head (λ (c : ℕ). (1 ≤ c) × (c ≤ n)) r ranks numbers in
    let here : total n (λ p. cond (r == p + 1) k 0) ≡ k = total-one n r k number.0 number.1 in
    let rest :
    total n (λ p. given_under rule s keeps (w - k) ranks (p + 1)) + weight_under rule s keeps (w - k) ranks
    ≡ w - k =
    given-and_left rule s keeps (w - kept_under rule s keeps w r) ranks n pos bound
    (All-tail (λ (c : ℕ). (1 ≤ c) × (c ≤ n)) r ranks numbers) in
    let split : total n (λ p. given_under rule s keeps w (r ∷ ranks) (p + 1))
    ≡ total n (λ p. cond (r == p + 1) k 0) + total n (λ p. given_under rule s keeps (w - k) ranks (p + 1)) =
    total-add n (λ p. cond (r == p + 1) k 0) (λ p. given_under rule s keeps (w - k) ranks (p + 1)) in
    omega arith

-- so with all ballots
pub votes-and_exhausted : (rule : Rule) (s : ℕ) (keeps : List ℕ) (ballots : List (List ℕ)) (n : ℕ) → 1 ≤ s
    → All (λ k. k ≤ s) keeps → All (IsRanking n) ballots
    → total n (λ p. vote_under rule s keeps ballots (p + 1)) + exhausted rule s keeps ballots ≡ length ballots * s
votes-and_exhausted rule s keeps [] n pos bound rankings =
    let none = total-none n (λ p. vote_under rule s keeps [] (p + 1)) (λ p inside. refl) in omega arith
votes-and_exhausted rule s keeps (ballot ∷ ballots) n pos bound rankings =
    let ranks : IsRanking n ballot = All-head (IsRanking n) ballot ballots rankings in
    let here :
    total n (λ p. given_under rule s keeps s ballot (p + 1)) + weight_under rule s keeps s ballot ≡ s =
    given-and_left rule s keeps s ballot n pos bound ranks.numbers in
    let rest :
    total n (λ p. vote_under rule s keeps ballots (p + 1)) + exhausted rule s keeps ballots
    ≡ length ballots * s =
    votes-and_exhausted rule s keeps ballots n pos bound (All-tail (IsRanking n) ballot ballots rankings) in
    let split : total n (λ p. vote_under rule s keeps (ballot ∷ ballots) (p + 1))
    ≡ total n (λ p. given_under rule s keeps s ballot (p + 1)) + total n (λ p. vote_under rule s keeps ballots (p + 1)) =
    total-same n (λ p. vote_under rule s keeps (ballot ∷ ballots) (p + 1))
    (λ p. given_under rule s keeps s ballot (p + 1) + vote_under rule s keeps ballots (p + 1))
    (λ p inside. sum_by-cons (λ (x : List ℕ). given_under rule s keeps s x (p + 1)) ballot ballots)
    ∙ total-add n (λ p. given_under rule s keeps s ballot (p + 1)) (λ p. vote_under rule s keeps ballots (p + 1)) in
    let left : exhausted rule s keeps (ballot ∷ ballots) ≡ weight_under rule s keeps s ballot + exhausted rule s keeps ballots =
    sum_by-cons (λ (x : List ℕ). weight_under rule s keeps s x) ballot ballots in
    let more : suc (length ballots) * s ≡ length ballots * s + 1 * s =
    ap (λ k. k * s) (sym (add-one (length ballots))) ∙ add-mul (length ballots) 1 s in
    omega arith

pub count-nothing_vanishes : NothingVanishes
count-nothing_vanishes rule places units ballots roll lots rows last is counted =
    let s : ℕ = scale places in
    count-each rule places units ballots roll lots rows last
    (λ row. sum row.votes + exhausted rule (scale places) row.keeps ballots ≡ length ballots * scale places) is counted
    (λ now row next at.
    let same : length roll.names ≡ length now.states =
    sym (at.long ∙ length-opening s units roll is.sound_roll) in
    let all :
    total (length now.states) (λ p. vote_under rule s now.keeps ballots (p + 1))
    + exhausted rule s now.keeps ballots ≡ length ballots * s =
    votes-and_exhausted rule s now.keeps ballots (length now.states) (scale_pos places) (keeps-le s now at.valid)
    (subst (λ (m : ℕ). All (IsRanking m) ballots) same is.rankings) in
    let votes :
    sum (votes_under rule s now.keeps ballots (length now.states))
    ≡ total (length now.states) (λ p. vote_under rule s now.keeps ballots (p + 1)) =
    sum-total (length now.states) (λ p. vote_under rule s now.keeps ballots (p + 1)) in
    (λ i. sum (at.settles.votes_are i) + exhausted rule s (at.settles.keeps i) ballots)
    ∙ (ap (λ (t : ℕ). t + exhausted rule s now.keeps ballots) votes ∙ all))
