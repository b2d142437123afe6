-- While one of some candidates is hopeful, all that a ballot for them gives stays with them.
use Rattle.std.proofs.Common.{◌≡◌, ℕ, ◌+◌, ◌-◌, ◌*◌, ◌<◌, ◌≤◌, ◌==◌, Bool, true, false, cond, List, [], ◌∷◌}
use Rattle.std.proofs.Common.{◌++◌, length, get_or, min, All, arith, refl}
use Rattle.std.proofs.Common.{ap, sym, ◌∙◌, inl, inr, zero, suc, ◌⊎◌, add-one}
use Rattle.std.proofs.Math.Nat.{add-mul, lt_of_mul-lt-mul_right}
use Rattle.std.proofs.lemmas.Bool.{eq-eqb}
use Rattle.std.proofs.lemmas.Grind.{div_ceil_times}
use Rattle.std.proofs.lemmas.List.Elements.{All-head, All-tail}
use Rattle.std.proofs.lemmas.List.Sums.{sum_by-cons, sum_by-append}
use Rattle.fixed_place.specs.Rounding.{up}
use Rattle.meek_rule.specs.Rule.{Rule, Meek, Warren}
use Rattle.meek_rule.specs.Weights.{kept_under, given_under, vote_under}
use Rattle.meek_rule.proofs.WeightLemmas.{kept_under-le, kept_under-none}
use Rattle.rule_laws.proofs.Totals.{total, total-add, total-part, total-same}

pub up-whole : (s w : ℕ) → 1 ≤ s → up s w s ≡ w
up-whole s w pos =
    let near : (w * s ≤ up s w s * s) × (up s w s * s < w * s + s) = div_ceil_times (w * s) s pos in
    let below : w * s < (up s w s + 1) * s = omega (arith, near.0, add-mul (up s w s) 1 s) in
    let above : up s w s * s < (w + 1) * s = omega (arith, near.1, add-mul w 1 s) in
    let one : w < up s w s + 1 = lt_of_mul-lt-mul_right s below in
    let other : up s w s < w + 1 = lt_of_mul-lt-mul_right s above in
    omega arith

-- with keep value 1, or the price of a whole vote, a candidate keeps all of a weight of at most one vote
pub kept-whole :
    (rule : Rule) (s : ℕ) (keeps : List ℕ) (w c : ℕ) → 1 ≤ s → w ≤ s → get_or keeps (c - 1) 0 ≡ s
    → kept_under rule s keeps w c ≡ w
kept-whole Meek s keeps w c pos few whole = ap (up s w) whole ∙ up-whole s w pos
kept-whole Warren s keeps w c pos few whole = ap (min w) whole ∙ omega arith

-- what the members of a set have of what is given
abbrev pub of_members : (members : ℕ → Bool) → (ℕ → ℕ) → ℕ → ℕ
of_members members f p = cond (members p) (f p) 0

cond-add : (t : Bool) (a b : ℕ) → cond t (a + b) 0 ≡ cond t a 0 + cond t b 0
cond-add true a b = refl
cond-add false a b = refl

pub members-add : (n : ℕ) (members : ℕ → Bool) (f g h : ℕ → ℕ) → ((p : ℕ) → h p ≡ f p + g p)
    → total n (of_members members h) ≡ total n (of_members members f) + total n (of_members members g)
members-add n members f g h each =
    total-same n (of_members members h) (λ p. of_members members f p + of_members members g p)
    (λ p below. ap (λ (k : ℕ). cond (members p) k 0) (each p) ∙ cond-add (members p) (f p) (g p))
    ∙ total-add n (of_members members f) (of_members members g)

-- what a member keeps at its place is part of what all members have
member_part :
    (n : ℕ) (members : ℕ → Bool) (r k : ℕ) → 1 ≤ r → r ≤ n → members (r - 1) ≡ true
    → k ≤ total n (of_members members (λ p. cond (r == p + 1) k 0))
member_part n members r k some within member =
    let place : r ≡ r - 1 + 1 = omega arith in
    let at : of_members members (λ p. cond (r == p + 1) k 0) (r - 1) ≡ k =
    ap (λ (b : Bool). cond b (cond (r == r - 1 + 1) k 0) 0) member
    ∙ ap (λ (b : Bool). cond b k 0) (eq-eqb r (r - 1 + 1) place) in
    let part = total-part n (r - 1) (of_members members (λ p. cond (r == p + 1) k 0)) (omega arith) in
    omega arith

-- Where a member with keep value 1 is at place j, and above it only members and candidates that keep
-- nothing, the members
-- are given the whole weight.
pub stays_with_members : (rule : Rule) (s : ℕ) (keeps : List ℕ) (w : ℕ) (ranks : List ℕ) (n : ℕ) (members : ℕ → Bool) (j : ℕ)
    → 1 ≤ s → w ≤ s → All (λ k. k ≤ s) keeps → All (λ r. (1 ≤ r) × (r ≤ n)) ranks
    → j < length ranks → get_or keeps (get_or ranks j 0 - 1) 0 ≡ s → members (get_or ranks j 0 - 1) ≡ true
    → ((i : ℕ) → i < j → (members (get_or ranks i 0 - 1) ≡ true) ⊎ (get_or keeps (get_or ranks i 0 - 1) 0 ≡ 0))
    → w ≤ total n (of_members members (λ p. given_under rule s keeps w ranks (p + 1)))
stays_with_members rule s keeps w [] n members j pos few bound numbers below whole member above = absurd (omega arith)
stays_with_members rule s keeps w (r ∷ ranks) n members zero pos few bound numbers below whole member above =
    let k : ℕ = kept_under rule s keeps w r in
    let all : k ≡ w = kept-whole rule s keeps w r pos few whole in
    let number : (1 ≤ r) × (r ≤ n) = All-head (λ (c : ℕ). (1 ≤ c) × (c ≤ n)) r ranks numbers in
    let here : k ≤ total n (of_members members (λ p. cond (r == p + 1) k 0)) =
    member_part n members r k number.0 number.1 member in
    let split : total n (of_members members (λ p. given_under rule s keeps w (r ∷ ranks) (p + 1))) ≡ total n
    (of_members members (λ p. cond (r == p + 1) k 0))
    + total n (of_members members (λ p. given_under rule s keeps (w - k) ranks (p + 1))) =
    members-add n members (λ p. cond (r == p + 1) k 0) (λ p. given_under rule s keeps (w - k) ranks (p + 1))
    (λ p. given_under rule s keeps w (r ∷ ranks) (p + 1)) (λ p. refl) in
    omega arith
stays_with_members rule s keeps w (r ∷ ranks) n members (suc j) pos few bound numbers below whole member above =
    let k : ℕ = kept_under rule s keeps w r in
    let part : k ≤ w = kept_under-le rule s keeps w r pos bound in
    let number : (1 ≤ r) × (r ≤ n) = All-head (λ (c : ℕ). (1 ≤ c) × (c ≤ n)) r ranks numbers in
    let rest : w - k ≤ total n (of_members members (λ p. given_under rule s keeps (w - k) ranks (p + 1))) =
    stays_with_members rule s keeps (w - kept_under rule s keeps w r) ranks n members j pos (omega arith) bound
    (All-tail (λ (c : ℕ). (1 ≤ c) × (c ≤ n)) r ranks numbers) (omega arith) whole member
    (λ i less. above (suc i) (omega arith)) in
    let split : total n (of_members members (λ p. given_under rule s keeps w (r ∷ ranks) (p + 1))) ≡ total n
    (of_members members (λ p. cond (r == p + 1) k 0))
    + total n (of_members members (λ p. given_under rule s keeps (w - k) ranks (p + 1))) =
    members-add n members (λ p. cond (r == p + 1) k 0) (λ p. given_under rule s keeps (w - k) ranks (p + 1))
    (λ p. given_under rule s keeps w (r ∷ ranks) (p + 1)) (λ p. refl) in
    elim (above 0 (omega arith)) [
      | inl is ↦
          let here : k ≤ total n (of_members members (λ p. cond (r == p + 1) k 0)) =
          member_part n members r k number.0 number.1 is in
          omega arith
      | inr nothing ↦
          let none : k ≡ 0 = kept_under-none rule s keeps w r pos nothing in
          omega arith
    ]

-- what some ballots give the members, where each gives them its whole weight
pub all_stay : (rule : Rule) (s : ℕ) (keeps : List ℕ) (ballots : List (List ℕ)) (n : ℕ) (members : ℕ → Bool)
    → All (λ ranking. s ≤ total n (of_members members (λ p. given_under rule s keeps s ranking (p + 1)))) ballots
    → length ballots * s ≤ total n (of_members members (λ p. vote_under rule s keeps ballots (p + 1)))
all_stay rule s keeps [] n members each = omega arith
all_stay rule s keeps (ranking ∷ ballots) n members each =
    let gives : List ℕ → Type 0 = λ x. s ≤ total n (of_members members (λ p. given_under rule s keeps s x (p + 1))) in
    let here : s ≤ total n (of_members members (λ p. given_under rule s keeps s ranking (p + 1))) =
    All-head gives ranking ballots each in
    let rest : length ballots * s ≤ total n (of_members members (λ p. vote_under rule s keeps ballots (p + 1))) =
    all_stay rule s keeps ballots n members (All-tail gives ranking ballots each) in
    let split : total n (of_members members (λ p. vote_under rule s keeps (ranking ∷ ballots) (p + 1))) ≡ total n
    (of_members members (λ p. given_under rule s keeps s ranking (p + 1))) + total n
    (of_members members (λ p. vote_under rule s keeps ballots (p + 1))) =
    members-add n members (λ p. given_under rule s keeps s ranking (p + 1)) (λ p. vote_under rule s keeps ballots (p + 1))
    (λ p. vote_under rule s keeps (ranking ∷ ballots) (p + 1))
    (λ p. sum_by-cons (λ (x : List ℕ). given_under rule s keeps s x (p + 1)) ranking ballots) in
    let more : suc (length ballots) * s ≡ length ballots * s + 1 * s =
    ap (λ k. k * s) (sym (add-one (length ballots))) ∙ add-mul (length ballots) 1 s in
    omega arith

-- and more ballots give them no less
pub more_stay : (rule : Rule) (s : ℕ) (keeps : List ℕ) (ballots others : List (List ℕ)) (n : ℕ) (members : ℕ → Bool)
    → total n (of_members members (λ p. vote_under rule s keeps ballots (p + 1))) ≤ total n
    (of_members members (λ p. vote_under rule s keeps (ballots ++ others) (p + 1)))
more_stay rule s keeps ballots others n members =
    let split =
    members-add n members (λ p. vote_under rule s keeps ballots (p + 1)) (λ p. vote_under rule s keeps others (p + 1))
    (λ p. vote_under rule s keeps (ballots ++ others) (p + 1))
    (λ p. sum_by-append (λ (x : List ℕ). given_under rule s keeps s x (p + 1)) ballots others) in
    omega arith
