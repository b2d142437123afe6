-- Who is decided stays so.
use Rattle.std.proofs.Common.{◌≡◌, ◌↔◌, ℕ, ◌-◌, ◌<◌, ◌≤◌, Bool, true, false, cond, List, [], ◌∷◌, length, set}
use Rattle.std.proofs.Common.{All, AllPairs, arith, refl, ap, sym, subst}
use Rattle.std.proofs.Common.{◌∙◌, inl, inr}
use Rattle.std.proofs.lemmas.Bool.{cases_eq}
use Rattle.std.proofs.lemmas.List.{get_or-set_other}
use Rattle.std.proofs.lemmas.Grind.{get_or-set_at}
use Rattle.std.proofs.lemmas.List.Elements.{All-nil, All-cons}
use Rattle.std.proofs.lemmas.List.Kept.{AllPairs-cons}
use Rattle.std.proofs.lemmas.List.FromFn.{get_or-map-range_with_len}
use Rattle.fixed_place.specs.Rounding.{scale}
use Rattle.candidate_roll.specs.Roll.{RollList, is_withdrawn}
use Rattle.candidate_roll.specs.State.{state_at}
use Rattle.candidate_roll.specs.declared.state.State.{State}
use Rattle.candidate_roll.specs.declared.state.State.TheVariants.{Hopeful, Elected as IsNowElected}
use Rattle.candidate_roll.specs.declared.state.State.TheVariants.{Defeated as IsNowDefeated, Withdrawn}
use Rattle.lot_order.specs.Flags.{mark_at}
use Rattle.lot_order.specs.Lots.{IsOrder}
use Rattle.meek_rule.specs.declared.step.Step.{Step}
use Rattle.meek_rule.specs.declared.step.Step.TheVariants.{Elected, Iterate, Defeat}
use Rattle.meek_rule.specs.Situation.{Situation, IsValid, is_complete, is_full, is_hopeful, final_state}
use Rattle.meek_rule.specs.Situation.{final_states, opening}
use Rattle.meek_rule.specs.Row.{Row}
use Rattle.meek_rule.specs.Rule.{Rule}
use Rattle.meek_rule.specs.Weights.{votes_under}
use Rattle.meek_rule.specs.Iteration.{Settle, StepLeaves, elect}
use Rattle.meek_rule.specs.Steps.{AreElectable}
use Rattle.meek_rule.proofs.ValidLemmas.{winners-electable}
use Rattle.meek_rule.proofs.SettleLemmas.{settled-valid, settled-same}
use Rattle.meek_count.specs.Laws.{IsElection}
use Rattle.meek_count.specs.Rows.{Rows, IsCountUnder}
use Rattle.meek_count.proofs.WholeCount.{length-opening, valid-opening_of_roll}
use Rattle.rule_laws.specs.Seats.{Becomes, AllBecome}
use Rattle.rule_laws.proofs.Walk.{loser_is_hopeful}

pub becomes-itself : (state : State) → Becomes state state
becomes-itself Hopeful = λ e. cc
becomes-itself IsNowElected = refl
becomes-itself IsNowDefeated = refl
becomes-itself Withdrawn = refl

becomes-through : (a b c : State) → Becomes a b → Becomes b c → Becomes a c
becomes-through Hopeful Hopeful c first second = second
becomes-through Hopeful IsNowElected c first second = λ e. cc
becomes-through Hopeful IsNowDefeated c first second = λ e. cc
becomes-through Hopeful Withdrawn c first second = absurd (first refl)
becomes-through IsNowElected b c first second = subst (λ (x : State). Becomes x c) first second
becomes-through IsNowDefeated b c first second = subst (λ (x : State). Becomes x c) first second
becomes-through Withdrawn b c first second = subst (λ (x : State). Becomes x c) first second

becomes-elected :
    (state : State) (won : Bool) → (won ≡ true → is_hopeful state ≡ true)
    → Becomes state (cond won IsNowElected state)
becomes-elected state false f = becomes-itself state
becomes-elected Hopeful true f = λ e. cc
becomes-elected IsNowElected true f = refl
becomes-elected IsNowDefeated true f = absurd (let off = f refl in cc)
becomes-elected Withdrawn true f = absurd (let off = f refl in cc)

becomes-defeated : (state : State) → is_hopeful state ≡ true → Becomes state IsNowDefeated
becomes-defeated Hopeful is = λ e. cc
becomes-defeated IsNowElected is = absurd (cc)
becomes-defeated IsNowDefeated is = refl
becomes-defeated Withdrawn is = absurd (cc)

becomes-final : (full : Bool) (state : State) → Becomes state (final_state full state)
becomes-final true Hopeful = λ e. cc
becomes-final false Hopeful = λ e. cc
becomes-final true IsNowElected = refl
becomes-final false IsNowElected = refl
becomes-final true IsNowDefeated = refl
becomes-final false IsNowDefeated = refl
becomes-final true Withdrawn = refl
becomes-final false Withdrawn = refl

pub all_become-through : (a b c : List State) → length b ≡ length a → AllBecome a b → AllBecome b c → AllBecome a c
all_become-through a b c same first second p below =
    becomes-through (state_at a p) (state_at b p) (state_at c p) (first p below) (second p (omega arith))

-- an iteration
pub settled-become :
    (s : ℕ) (now : Situation) (votes lots : List ℕ) (row : Row) (next : Situation)
    → Settle s now votes lots row next → IsValid s now
    → is_complete now ≡ false → IsOrder lots → length lots ≡ length now.states → AllBecome now.states next.states
settled-become s now votes lots row next settle valid going order same p below = by_step row.step settle.leaves
  where
    by_step : (step : Step) → StepLeaves s now lots row step next → Becomes (state_at now.states p) (state_at next.states p)
    by_step Elected leaves =
        let can : AreElectable now row.elected =
        winners-electable s now votes lots row.quota row.elected valid settle.winners in
        let at :
        state_at (elect now.states row.elected) p
        ≡ cond (mark_at row.elected p) IsNowElected (state_at now.states p) =
        get_or-map-range_with_len (λ q. cond (mark_at row.elected q) IsNowElected (state_at now.states q)) 0
        (length now.states) p p Withdrawn below
        (omega arith) in
        rw (leaves.1, at) (becomes-elected (state_at now.states p) (mark_at row.elected p) (can.hopeful p))
    by_step (Defeat c) leaves =
        let loser = loser_is_hopeful s now lots row next c leaves valid going order same in
        elim (cases_eq p (c - 1)) [
          | inl at ↦
              let is : state_at (set now.states (c - 1) IsNowDefeated) p ≡ IsNowDefeated =
              get_or-set_at now.states (c - 1) p IsNowDefeated Withdrawn at loser.0 in
              let hopes : is_hopeful (state_at now.states p) ≡ true =
              ap (λ (k : ℕ). is_hopeful (state_at now.states k)) at ∙ loser.1 in
              rw (leaves.4, is) (becomes-defeated (state_at now.states p) hopes)
          | inr other ↦
              let is : state_at (set now.states (c - 1) IsNowDefeated) p ≡ state_at now.states p =
              get_or-set_other now.states (c - 1) p IsNowDefeated Withdrawn other in
              rw (leaves.4, is) (becomes-itself (state_at now.states p))
        ]
    by_step Iterate leaves = rw leaves.3 (becomes-itself (state_at now.states p))

pub end-become : (now : Situation) → AllBecome now.states (final_states now)
end-become now p below =
    let at : state_at (final_states now) p ≡ final_state (is_full now) (state_at now.states p) =
    get_or-map-range_with_len (λ q. final_state (is_full now) (state_at now.states q)) 0 (length now.states) p
    p Withdrawn below (omega arith) in
    rw at (becomes-final (is_full now) (state_at now.states p))

-- from earlier states to all later ones
pub rows-become :
    (rule : Rule) (s : ℕ) (ballots : List (List ℕ)) (lots : List ℕ) (earlier : List State) (now : Situation)
    (rows : List Row) (last : List State)
    → IsValid s now → IsOrder lots → length lots ≡ length now.states → length now.states ≡ length earlier
    → AllBecome earlier now.states
    → Rows rule s ballots lots now rows last → All (λ row. AllBecome earlier row.states) rows × AllBecome earlier last
rows-become rule s ballots lots earlier now [] last valid order same as_long from leads = (
  All-nil (λ (row : Row). AllBecome earlier row.states),
  all_become-through earlier now.states last as_long from (subst (AllBecome now.states) (sym leads.1) (end-become now)),
)
rows-become rule s ballots lots earlier now (row ∷ rows) last valid order same as_long from leads =
    let votes : List ℕ = votes_under rule s now.keeps ballots (length now.states) in
    let next : Situation = leads.1.0 in
    let as_many : length next.states ≡ length now.states = settled-same s now votes lots row next leads.1.1 in
    let step : AllBecome now.states next.states =
    settled-become s now votes lots row next leads.1.1 valid leads.0 order same in
    let rest =
    rows-become rule s ballots lots earlier next rows last
    (settled-valid s now votes lots row next leads.1.1 valid leads.0 order same) order
    (same ∙ sym as_many) (as_many ∙ as_long)
    (all_become-through earlier now.states next.states as_long from step) leads.1.2 in (
      All-cons (λ (r : Row). AllBecome earlier r.states) row rows
          (subst (AllBecome earlier) (sym leads.1.1.states) from) rest.0,
      rest.1,
    )

-- and from each row to the later ones
pub rows-decided :
    (rule : Rule) (s : ℕ) (ballots : List (List ℕ)) (lots : List ℕ) (now : Situation) (rows : List Row)
    (last : List State)
    → IsValid s now → IsOrder lots → length lots ≡ length now.states → Rows rule s ballots lots now rows last
    → AllPairs (λ one other. AllBecome one.states other.states) rows × All (λ row. AllBecome row.states last) rows
rows-decided rule s ballots lots now [] last valid order same leads = (
  (λ i j d less below. absurd (omega arith)),
  All-nil (λ (row : Row). AllBecome row.states last),
)
rows-decided rule s ballots lots now (row ∷ rows) last valid order same leads =
    let votes : List ℕ = votes_under rule s now.keeps ballots (length now.states) in
    let next : Situation = leads.1.0 in
    let as_many : length next.states ≡ length now.states = settled-same s now votes lots row next leads.1.1 in
    let valid_next : IsValid s next = settled-valid s now votes lots row next leads.1.1 valid leads.0 order same in
    let step : AllBecome now.states next.states =
    settled-become s now votes lots row next leads.1.1 valid leads.0 order same in
    let later =
    rows-become rule s ballots lots now.states next rows last valid_next order (same ∙ sym as_many)
    as_many step leads.1.2 in
    let rest = rows-decided rule s ballots lots next rows last valid_next order (same ∙ sym as_many) leads.1.2 in
    let from_row : All (λ (other : Row). AllBecome row.states other.states) rows =
    subst (λ (x : List State). All (λ (other : Row). AllBecome x other.states) rows) (sym leads.1.1.states) later.0 in
    let to_last : AllBecome row.states last =
    subst (λ (x : List State). AllBecome x last) (sym leads.1.1.states) later.1 in (
      AllPairs-cons (λ (one other : Row). AllBecome one.states other.states) row rows from_row rest.0,
      All-cons (λ (r : Row). AllBecome r.states last)
          row rows to_last rest.1,
    )

pub count-decided :
    (rule : Rule) (places units : ℕ) (ballots : List (List ℕ)) (roll : RollList) (lots : List ℕ)
    (rows : List Row) (last : List State)
    → IsElection places units ballots roll lots → IsCountUnder rule places units ballots roll lots rows last
    → AllPairs (λ one other. AllBecome one.states other.states) rows × All (λ row. AllBecome row.states last) rows
count-decided rule places units ballots roll lots rows last is counted =
    rows-decided rule (scale places) ballots lots (opening (scale places) units roll.seats roll.withdrawn) rows last
    (valid-opening_of_roll (scale places) units roll is.some_omega is.small_omega is.sound_roll) is.order_of_lots
    (is.lots_of_all ∙ sym (length-opening (scale places) units roll is.sound_roll)) counted

-- who was withdrawn ends so, and nobody else
withdrawn_both :
    (gone : Bool) (last : State) → Becomes (cond gone Withdrawn Hopeful) last
    → (gone ≡ true) ↔ (last ≡ Withdrawn)
withdrawn_both true last becomes = (λ is. becomes, λ is. refl)
withdrawn_both false last becomes = (λ is. absurd (cc), λ is. absurd (becomes is))

pub count-withdrawn :
    (rule : Rule) (places units : ℕ) (ballots : List (List ℕ)) (roll : RollList) (lots : List ℕ)
    (rows : List Row) (last : List State) (c : ℕ)
    → IsElection places units ballots roll lots → IsCountUnder rule places units ballots roll lots rows last
    → 1 ≤ c → c ≤ length roll.names
    → (is_withdrawn roll.withdrawn c ≡ true) ↔ (state_at last (c - 1) ≡ Withdrawn)
count-withdrawn rule places units ballots roll lots rows last c is counted some within =
    let s : ℕ = scale places in
    let start : Situation = opening s units roll.seats roll.withdrawn in
    let n : ℕ = length roll.withdrawn in
    let below : c - 1 < n = omega (arith, is.sound_roll.same_length) in
    let long : length start.states ≡ length roll.names = length-opening s units roll is.sound_roll in
    let at : state_at start.states (c - 1) ≡ cond (mark_at roll.withdrawn (c - 1)) Withdrawn Hopeful =
    get_or-map-range_with_len (λ q. cond (mark_at roll.withdrawn q) Withdrawn Hopeful) 0 n (c - 1) (c - 1)
    Withdrawn below (omega arith) in
    let later = rows-become rule s ballots lots start.states start rows last
    (valid-opening_of_roll s units roll is.some_omega is.small_omega is.sound_roll) is.order_of_lots
    (is.lots_of_all ∙ sym long) refl
    (λ p inside. becomes-itself (state_at start.states p)) counted in
    withdrawn_both (mark_at roll.withdrawn (c - 1)) (state_at last (c - 1))
    (subst (λ (x : State). Becomes x (state_at last (c - 1))) at
    (later.1 (c - 1) (omega (arith, is.sound_roll.same_length))))
