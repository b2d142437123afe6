-- A coalition that stands when the count is complete has its seats. Where all seats are taken, k of its members
-- are elected by then. Else everybody who is still hopeful is elected at the end, and k members are elected or
-- hopeful.
use Rattle.std.proofs.Common.{◌≡◌, ℕ, ◌+◌, ◌<◌, ◌≤◌, ◌&&◌, Bool, true, false, List, length, arith, ap}
use Rattle.std.proofs.Common.{inl, inr}
use Rattle.std.proofs.lemmas.Bool.{cases_Bool}
use Rattle.std.proofs.lemmas.List.FromFn.{get_or-map-range_with_len}
use Rattle.candidate_roll.specs.State.{state_at}
use Rattle.candidate_roll.specs.declared.state.State.{State}
use Rattle.candidate_roll.specs.declared.state.State.TheVariants.{Hopeful, Elected as IsNowElected}
use Rattle.candidate_roll.specs.declared.state.State.TheVariants.{Defeated as IsNowDefeated, Withdrawn}
use Rattle.meek_rule.specs.Situation.{Situation, is_complete, is_full, is_hopeful, is_elected, final_state}
use Rattle.meek_rule.specs.Situation.{final_states}
use Rattle.rule_laws.proofs.Totals.{one_if, total, total-add, total-le, total-same}
use Rattle.rule_laws.proofs.Members.{Stands, elected_of}

end_point :
    (m full : Bool) (state : State)
    → one_if (m && is_elected state) ≤ one_if (m && is_elected (final_state full state))
end_point false full state = omega arith
end_point true true Hopeful = omega arith
end_point true false Hopeful = omega arith
end_point true true IsNowElected = omega arith
end_point true false IsNowElected = omega arith
end_point true true IsNowDefeated = omega arith
end_point true false IsNowDefeated = omega arith
end_point true true Withdrawn = omega arith
end_point true false Withdrawn = omega arith

open_point : (m full : Bool) (state : State) → full ≡ false
    → one_if (m && is_elected state) + one_if (m && is_hopeful state) ≤ one_if (m && is_elected (final_state full state))
open_point false full state not_full = omega arith
open_point true true state not_full = absurd (cc)
open_point true false Hopeful not_full = omega arith
open_point true false IsNowElected not_full = omega arith
open_point true false IsNowDefeated not_full = omega arith
open_point true false Withdrawn not_full = omega arith

-- so many members are elected at the end
pub stands-end :
    (start : List State) (n : ℕ) (members : ℕ → Bool) (seats k : ℕ) (now : Situation)
    → Stands start n members seats k now
    → is_complete now ≡ true → k ≤ elected_of n members (final_states now)
stands-end start n members seats k now stands complete =
    let full : Bool = is_full now in
    let at : (p : ℕ) → p < n → state_at (final_states now) p ≡ final_state full (state_at now.states p) =
    λ p inside. get_or-map-range_with_len (λ c. final_state full (state_at now.states c)) 0 (length now.states) p p Withdrawn
    (omega (arith, stands.as_long)) (omega arith) in
    let after :
    elected_of n members (final_states now)
    ≡ total n (λ p. one_if (members p && is_elected (final_state full (state_at now.states p)))) =
    total-same n (λ p. one_if (members p && is_elected (state_at (final_states now) p)))
    (λ p. one_if (members p && is_elected (final_state full (state_at now.states p))))
    (λ p inside. ap (λ (x : State). one_if (members p && is_elected x)) (at p inside)) in
    elim (cases_Bool full) [
      | inl taken ↦
          let least =
          total-le n (λ p. one_if (members p && is_elected (state_at now.states p)))
          (λ p. one_if (members p && is_elected (final_state full (state_at now.states p))))
          (λ p inside. end_point (members p) full (state_at now.states p)) in
          omega (arith, stands.at_full taken)
      | inr not_full ↦
          let least =
          total-le n (λ p. one_if (members p && is_elected (state_at now.states p))
          + one_if (members p && is_hopeful (state_at now.states p)))
          (λ p. one_if (members p && is_elected (final_state full (state_at now.states p))))
          (λ p inside. open_point (members p) full (state_at now.states p) not_full) in
          let both =
          total-add n (λ p. one_if (members p && is_elected (state_at now.states p)))
          (λ p. one_if (members p && is_hopeful (state_at now.states p)))
          in
          omega (arith, stands.enough)
    ]
