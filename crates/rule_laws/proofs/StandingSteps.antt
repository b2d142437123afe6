-- What each step leaves of a coalition that stands, of which k members are elected or hopeful. An election leaves
-- each member one of these, and where it takes the last seats k members hold some: else the others who hold seats
-- would have more than all votes leave to them. A defeat takes a member only where one is to spare, since just k
-- members, of whom nobody reached the quota, would have less than the votes that stay with them.
use Rattle.std.proofs.Common.{◌≡◌, ℕ, ◌+◌, ◌-◌, ◌*◌, ◌<◌, ◌≤◌, ◌&&◌, ◌||◌, not, min, Bool, true, false, cond}
use Rattle.std.proofs.Common.{List, length, get_or, set, sum, arith, ap, sym, subst, ◌∙◌, inl, inr}
use Rattle.std.proofs.lemmas.Bool.{cases_Bool, cases_lt, eqb-true}
use Rattle.std.proofs.lemmas.List.{length-set}
use Rattle.std.proofs.lemmas.List.FromFn.{length-map-range_with_len}
use Rattle.candidate_roll.specs.State.{state_at}
use Rattle.candidate_roll.specs.declared.state.State.{State}
use Rattle.candidate_roll.specs.declared.state.State.TheVariants.{Elected as IsNowElected}
use Rattle.candidate_roll.specs.declared.state.State.TheVariants.{Defeated as IsNowDefeated}
use Rattle.lot_order.specs.Flags.{mark_at}
use Rattle.lot_order.specs.Lots.{IsOrder}
use Rattle.meek_rule.specs.declared.step.Step.TheVariants.{Elected, Iterate, Defeat}
use Rattle.meek_rule.specs.Places.{count_places}
use Rattle.meek_rule.specs.Situation.{Situation, IsValid, is_complete, is_hopeful, is_elected, elected_count}
use Rattle.meek_rule.specs.Row.{Row}
use Rattle.meek_rule.specs.Quota.{has_reached}
use Rattle.meek_rule.specs.Surplus.{holds_seat}
use Rattle.meek_rule.specs.Steps.{AreElectable}
use Rattle.meek_rule.specs.Iteration.{Settle, StepLeaves, elect}
use Rattle.meek_rule.proofs.StateCounts.{elected_count-defeat}
use Rattle.meek_rule.proofs.ValidLemmas.{winners-electable}
use Rattle.rule_laws.specs.Seats.{AllBecome}
use Rattle.rule_laws.proofs.Totals.{list-total, one_if, total, total-part}
use Rattle.rule_laws.proofs.Walk.{IsOpen, is_open, loser_is_hopeful}
use Rattle.rule_laws.proofs.Kept.{of_members}
use Rattle.rule_laws.proofs.Members.{IsWithin, Stands, above, below, defeat_bound, elected_of, hopeful_of}
use Rattle.rule_laws.proofs.Members.{none_above, seats_bound, some_hopeful}
use Rattle.rule_laws.proofs.MemberSteps.{defeat-elected, defeat-hopeful, elect-at, elect-enough, elect-holds}
use Rattle.rule_laws.proofs.MemberSteps.{none_reached, seats_taken, still_hopeful}

-- what an iteration of a standing coalition has
pub record IsReady (s : ℕ) (lots : List ℕ) (start : List State) (n : ℕ) (members : ℕ → Bool) (seats k over : ℕ)
    (now : Situation) (votes : List ℕ)
    (row : Row) (next : Situation) : Type 0 where
  pub settles : Settle s now votes lots row next
  pub valid : IsValid s now
  pub going : is_complete now ≡ false
  pub order : IsOrder lots
  pub lots_of_all : length lots ≡ length now.states
  pub long : length votes ≡ n
  pub bound : sum votes < (seats + 1) * row.quota
  pub members_have : (p : ℕ) → p < n → members p ≡ true → is_hopeful (state_at now.states p) ≡ true
      → k * row.quota + over ≤ total n (of_members members (λ c. get_or votes c 0))
  pub nothing_out :
      (p : ℕ) → p < n → (is_hopeful (state_at now.states p) || is_elected (state_at now.states p)) ≡ false
      → get_or votes p 0 ≡ 0
  pub become : AllBecome start next.states
  pub stands : Stands start n members seats k now

module _ (s : ℕ) (lots : List ℕ) (start : List State) (n : ℕ) (members : ℕ → Bool) (seats k over : ℕ)
    (now : Situation) (votes : List ℕ) (row : Row) (next : Situation)
    (ready : IsReady s lots start n members seats k over now votes row next) where
  -- winners are elected
  pub elected-stands :
      StepLeaves s now lots row Elected next → IsWithin n members k over now.states votes Elected row
      → Stands start n members seats k next
  elected-stands leaves left =
      let can : AreElectable now row.elected =
      winners-electable s now votes lots row.quota row.elected ready.valid ready.settles.winners in
      let new : List State = elect now.states row.elected in
      let holds = elect-holds n members now.states row.elected ready.stands.as_long in
      let as_before = elect-enough n members now.states row.elected ready.stands.as_long can.hopeful in
      subst (Stands start n members seats k) (sym leaves.1) (record {
        as_long =
            length-map-range_with_len (λ c. cond (mark_at row.elected c) IsNowElected (state_at now.states c)) 0
            (length now.states) ∙ ready.stands.as_long;
        as_many = ready.stands.as_many;
        from_start = subst (AllBecome start) (ap (λ (x : Situation). x.states) leaves.1) ready.become;
        enough = omega (arith, as_before, ready.stands.enough);
        at_full = λ full.
            elim (cases_lt 0 (hopeful_of n members new)) [
              | inr none ↦ omega (arith, as_before, ready.stands.enough)
              | inl some ↦
                  let one = some_hopeful n members new some in
                  let inside : one.0 < length now.states = omega (arith, one.1, ready.stands.as_long) in
                  let was : is_hopeful (state_at now.states one.0) ≡ true =
                  still_hopeful (state_at now.states one.0) (mark_at row.elected one.0)
                  (ap is_hopeful (sym (elect-at now.states row.elected one.0 inside)) ∙ one.3) in
                  let has = ready.members_have one.0 one.1 one.2 was in
                  let room = seats_bound n row.quota members (holds_seat now.states row.elected) (λ c. get_or votes c 0) in
                  let taken : elected_count new ≡ seats = eqb-true _ _ full ∙ ready.stands.as_many in
                  seats_taken row.quota (sum votes) seats
                  (total n (λ p. one_if (not (members p) && holds_seat now.states row.elected p)))
                  (total n (of_members members (λ c. get_or votes c 0)))
                  (elected_of n members new) k over
                  (below n members (holds_seat now.states row.elected) row.quota (λ c. get_or votes c 0))
                  ready.bound (omega (arith, room, list-total votes n ready.long)) left has (holds.1 ∙ taken)
            ];
      })

  -- a candidate is defeated
  pub defeated-stands :
      (c : ℕ) → StepLeaves s now lots row (Defeat c) next → IsWithin n members k over now.states votes (Defeat c) row
      → Stands start n members seats k next
  defeated-stands c leaves left =
      let loser = loser_is_hopeful s now lots row next c leaves ready.valid ready.going ready.order ready.lots_of_all in
      let open_ : IsOpen now = is_open s now ready.valid ready.going in
      let place : ℕ = c - 1 in
      let inside : c - 1 < n = omega (arith, loser.0, ready.stands.as_long) in
      let as_elected = elected_count-defeat now.states (c - 1) loser.0 loser.1 in
      let elected = defeat-elected n members now.states (c - 1) ready.stands.as_long inside loser.1 in
      let hopeful = defeat-hopeful n members now.states (c - 1) ready.stands.as_long inside in
      subst (Stands start n members seats k) (sym leaves.4) (record {
        as_long = length-set now.states (c - 1) IsNowDefeated ∙ ready.stands.as_long;
        as_many = ready.stands.as_many;
        from_start = subst (AllBecome start) (ap (λ (x : Situation). x.states) leaves.4) ready.become;
        enough =
            elim (cases_Bool (members (c - 1))) [
              | inr other ↦
                  let none : one_if (members (c - 1) && is_hopeful (state_at now.states (c - 1))) ≡ 0 =
                  ap (λ (b : Bool). one_if (b && is_hopeful (state_at now.states (c - 1)))) other in
                  omega (arith, elected, hopeful, ready.stands.enough)
              | inl member ↦
                  let one : one_if (members (c - 1) && is_hopeful (state_at now.states (c - 1))) ≡ 1 =
                  ap (λ (b : Bool). one_if (b && is_hopeful (state_at now.states (c - 1)))) member ∙ ap one_if loser.1 in
                  let some : 1 ≤ hopeful_of n members now.states =
                  omega (arith, total-part n (c - 1) (λ p. one_if (members p && is_hopeful (state_at now.states p))) inside) in
                  elim (cases_lt k (elected_of n members now.states + hopeful_of n members now.states)) [
                    | inl spare ↦ omega (arith, elected, hopeful)
                    | inr just ↦
                        let exactly : elected_of n members now.states + hopeful_of n members now.states ≡ k =
                        omega (arith, ready.stands.enough) in
                        let nobody_won : 0 ≡ min (now.seats - elected_count now.states)
                        (count_places (length now.states) (has_reached now.states votes row.quota)) =
                        sym leaves.0 ∙ ready.settles.winners.as_many in
                        let less : (p : ℕ) → p < n → is_hopeful (state_at now.states p) ≡ true → get_or votes p 0 < row.quota =
                        λ p within is. none_reached (length now.states) now.states
                        (now.seats - elected_count now.states) votes row.quota
                        (omega (arith, open_.free)) nobody_won p (omega (arith, ready.stands.as_long)) is in
                        let room =
                        defeat_bound n row.quota members now.states (λ p. get_or votes p 0) less
                        ready.nothing_out in
                        let has = ready.members_have (c - 1) inside member loser.1 in
                        let whole :
                        (elected_of n members now.states + hopeful_of n members now.states) * row.quota
                        ≡ k * row.quota =
                        ap (λ (m : ℕ). m * row.quota) exactly in
                        let small :
                        above n members (λ p. is_elected (state_at now.states p)) row.quota
                        (λ p. get_or votes p 0) ≤ over =
                        elim (cases_lt 0 (elected_of n members now.states)) [
                          | inl one_is ↦ left one_is (omega arith)
                          | inr none ↦
                              omega (
                                arith,
                                none_above n members now.states row.quota (λ p. get_or votes p 0)
                                    (omega arith),
                              )
                        ] in
                        absurd (omega arith)
                  ]
            ];
        at_full = λ full.
            absurd
            (let taken : elected_count (set now.states (c - 1) IsNowDefeated) ≡ now.seats = eqb-true _ _ full in
            omega (arith, open_.free));
      })

  -- only keep values change
  pub iterated-stands : StepLeaves s now lots row Iterate next → Stands start n members seats k next
  iterated-stands leaves =
      subst (Stands start n members seats k) (sym leaves.3) (record {
        as_long = ready.stands.as_long;
        as_many = ready.stands.as_many;
        from_start = ready.stands.from_start;
        enough = ready.stands.enough;
        at_full = ready.stands.at_full;
      })
