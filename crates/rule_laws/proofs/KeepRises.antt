-- A keep value rises by at most one unit where its candidate has the quota, and a vote less a unit.
use Rattle.std.proofs.Common.{◌≡◌, ℕ, ◌+◌, ◌-◌, ◌*◌, ◌<◌, ◌≤◌, Bool, true, false, cond, List, [], ◌∷◌}
use Rattle.std.proofs.Common.{◌++◌, length, get_or, set, min, arith, ap, sym, subst, ◌∙◌, inl, inr}
use Rattle.std.proofs.Math.Nat.{add-mul, mul_comm, mul-le-mul_right, lt_of_mul-lt-mul_right, min-le_right}
use Rattle.std.proofs.lemmas.Bool.{cases_eq, cases_lt, eq-eqb, ne_eqb}
use Rattle.std.proofs.lemmas.Grind.{div_ceil_times, get_or-set_at}
use Rattle.std.proofs.lemmas.List.{get_or_past, get_or-set_other}
use Rattle.std.proofs.lemmas.List.FromFn.{get_or-map-range_with_len, length-map-range_with_len}
use Rattle.fixed_place.specs.Rounding.{scale, up}
use Rattle.fixed_place.proofs.RoundingLemmas.{scale_pos}
use Rattle.candidate_roll.specs.State.{state_at}
use Rattle.candidate_roll.specs.declared.state.State.{State}
use Rattle.lot_order.specs.Lots.{IsOrder}
use Rattle.meek_rule.specs.declared.step.Step.{Step}
use Rattle.meek_rule.specs.declared.step.Step.TheVariants.{Elected, Iterate, Defeat}
use Rattle.meek_rule.specs.KeepValues.{new_keep, new_keeps, next_keep, uncapped}
use Rattle.meek_rule.specs.Situation.{Situation, IsValid, is_complete, is_elected, opening}
use Rattle.meek_rule.specs.Row.{Row}
use Rattle.meek_rule.specs.Rule.{Rule}
use Rattle.meek_rule.specs.Weights.{votes_under}
use Rattle.meek_rule.specs.Iteration.{Settle, StepLeaves}
use Rattle.meek_rule.proofs.SettleLemmas.{settled-valid, settled-same}
use Rattle.meek_count.specs.Rows.{Rows}
use Rattle.meek_count.proofs.WholeCount.{length-opening, valid-opening_of_roll}
use Rattle.rule_laws.specs.KeepRises.{KeepValuesRiseByAUnit}
use Rattle.rule_laws.proofs.Walk.{loser_is_hopeful}

-- Of two divisions rounded up, a by s of what is kept of the quota and u by v of what is kept of the vote.
two_roundings : (s q k v a u : ℕ) → a * s < q * k + s → u * v < a * s + v → q ≤ v → s - 1 ≤ v → u ≤ k + 1
two_roundings s q k v a u first second enough whole =
    let times : q * k ≤ v * k = mul-le-mul_right k enough in
    let turned : v * k ≡ k * v = mul_comm v k in
    let split : (k + 2) * v ≡ k * v + 2 * v = add-mul k 2 v in
    let less : u * v < (k + 2) * v = omega arith in
    let fewer : u < k + 2 = lt_of_mul-lt-mul_right v less in
    omega arith

new_keep-le : (s q k v : ℕ) → 1 ≤ s → q ≤ v → s - 1 ≤ v → new_keep s q k v ≤ k + 1
new_keep-le s q k v pos enough whole =
    elim (cases_eq v 0) [
      | inl none ↦
          let same : new_keep s q k v ≡ k = ap (λ (b : Bool). cond b k (min s (uncapped s q k v))) (eq-eqb v 0 none) in
          subst (λ (x : ℕ). x ≤ k + 1) (sym same) (omega arith)
      | inr some ↦
          let capped : new_keep s q k v ≡ min s (uncapped s q k v) =
          ap (λ (b : Bool). cond b k (min s (uncapped s q k v))) (ne_eqb v 0 some) in
          let kept = div_ceil_times (q * k) s pos in
          let new = div_ceil_times (up s q k * s) v (omega arith) in
          let most : uncapped s q k v ≤ k + 1 =
          two_roundings s q k v (up s q k) (uncapped s q k v) kept.1 new.1 enough whole in
          subst (λ (x : ℕ). x ≤ k + 1) (sym capped)
          (through (min s (uncapped s q k v)) (uncapped s q k v) (k + 1) (min-le_right s (uncapped s q k v)) most)
    ]
  where
    through : (a b c : ℕ) → a ≤ b → b ≤ c → a ≤ c
    through a b c first second = omega arith

-- an iteration
settled-keep :
    (s : ℕ) (now : Situation) (votes lots : List ℕ) (row : Row) (next : Situation) (p : ℕ)
    → Settle s now votes lots row next → IsValid s now → is_complete now ≡ false → IsOrder lots
    → length lots ≡ length now.states → 1 ≤ s
    → row.quota ≤ get_or row.votes p 0 → s - 1 ≤ get_or row.votes p 0
    → get_or next.keeps p 0 ≤ get_or now.keeps p 0 + 1
settled-keep s now votes lots row next p settle valid going order same pos enough whole = by_step row.step settle.leaves
  where
    either : (b : Bool) (x y : ℕ) → x ≤ y + 1 → cond b x y ≤ y + 1
    either true x y le = le
    either false x y le = omega arith

    by_step : (step : Step) → StepLeaves s now lots row step next → get_or next.keeps p 0 ≤ get_or now.keeps p 0 + 1
    by_step Elected leaves = rw leaves.1 (omega arith)
    by_step (Defeat c) leaves =
        let loser = loser_is_hopeful s now lots row next c leaves valid going order same in
        elim (cases_eq p (c - 1)) [
          | inl at ↦
              let none : get_or (set now.keeps (c - 1) 0) p 0 ≡ 0 =
              get_or-set_at now.keeps (c - 1) p 0 0 at (omega (arith, loser.0, valid.same_length)) in
              rw (leaves.4, none) (omega arith)
          | inr other ↦
              let as_before : get_or (set now.keeps (c - 1) 0) p 0 ≡ get_or now.keeps p 0 =
              get_or-set_other now.keeps (c - 1) p 0 0 other in
              rw (leaves.4, as_before) (omega arith)
        ]
    by_step Iterate leaves =
        let left : get_or next.keeps p 0 ≡ get_or (new_keeps s now.states now.keeps row.votes row.quota) p 0 =
        ap (λ (x : Situation). get_or x.keeps p 0) leaves.3 in
        elim (cases_lt p (length now.states)) [
          | inl inside ↦
              let at :
              get_or (new_keeps s now.states now.keeps row.votes row.quota) p 0
              ≡ next_keep s now.states now.keeps row.votes row.quota p =
              get_or-map-range_with_len (next_keep s now.states now.keeps row.votes row.quota) 0
              (length now.states) p p 0 inside (omega arith) in
              subst (λ (x : ℕ). x ≤ get_or now.keeps p 0 + 1) (sym (left ∙ at))
              (either (is_elected (state_at now.states p))
              (new_keep s row.quota (get_or now.keeps p 0) (get_or row.votes p 0)) (get_or now.keeps p 0)
              (new_keep-le s row.quota (get_or now.keeps p 0) (get_or row.votes p 0) pos enough whole))
          | inr past ↦
              let long : length (new_keeps s now.states now.keeps row.votes row.quota) ≡ length now.states =
              length-map-range_with_len (next_keep s now.states now.keeps row.votes row.quota) 0
              (length now.states) in
              let none : get_or (new_keeps s now.states now.keeps row.votes row.quota) p 0 ≡ 0 =
              get_or_past (new_keeps s now.states now.keeps row.votes row.quota) p 0 (omega arith) in
              subst (λ (x : ℕ). x ≤ get_or now.keeps p 0 + 1) (sym (left ∙ none)) (omega arith)
        ]

-- two rows of a count, one after the other
rows-keep :
    (rule : Rule) (s : ℕ) (ballots : List (List ℕ)) (lots : List ℕ) (now : Situation) (earlier : List Row)
    (row other : Row) (later : List Row) (last : List State) (p : ℕ)
    → 1 ≤ s → IsValid s now → IsOrder lots → length lots ≡ length now.states
    → Rows rule s ballots lots now (earlier ++ row ∷ other ∷ later) last
    → row.quota ≤ get_or row.votes p 0 → s - 1 ≤ get_or row.votes p 0
    → get_or other.keeps p 0 ≤ get_or row.keeps p 0 + 1
rows-keep rule s ballots lots now [] row other later last p pos valid order same leads enough whole =
    let votes : List ℕ = votes_under rule s now.keeps ballots (length now.states) in
    let next : Situation = leads.1.0 in
    let most : get_or leads.1.0.keeps p 0 ≤ get_or now.keeps p 0 + 1 =
    settled-keep s now votes lots row next p leads.1.1 valid leads.0 order same pos enough whole in
    let before : get_or row.keeps p 0 ≡ get_or now.keeps p 0 = ap (λ (x : List ℕ). get_or x p 0) leads.1.1.keeps in
    let after : get_or other.keeps p 0 ≡ get_or leads.1.0.keeps p 0 =
    ap (λ (x : List ℕ). get_or x p 0) leads.1.2.1.1.keeps in
    omega arith
rows-keep rule s ballots lots now (first ∷ earlier) row other later last p pos valid order same leads enough whole =
    let votes : List ℕ = votes_under rule s now.keeps ballots (length now.states) in
    let next : Situation = leads.1.0 in
    rows-keep rule s ballots lots next earlier row other later last p pos
    (settled-valid s now votes lots first next leads.1.1 valid leads.0 order same) order
    (same ∙ sym (settled-same s now votes lots first next leads.1.1)) leads.1.2 enough whole

pub count-keep : KeepValuesRiseByAUnit
count-keep rule places units ballots roll lots earlier row other later last p is counted enough whole =
    let s : ℕ = scale places in
    rows-keep rule s ballots lots (opening s units roll.seats roll.withdrawn) earlier row other later last p (scale_pos places)
    (valid-opening_of_roll s units roll is.some_omega is.small_omega is.sound_roll) is.order_of_lots
    (is.lots_of_all ∙ sym (length-opening s units roll is.sound_roll)) counted enough whole
