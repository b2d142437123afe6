-- How many are elected at the end.
use Rattle.std.proofs.Common.{◌≡◌, ℕ, ◌+◌, ◌-◌, ◌≤◌, min, not, Bool, true, false, cond, List, [], ◌∷◌, length}
use Rattle.std.proofs.Common.{count_by, All, arith, refl, ap, sym, subst}
use Rattle.std.proofs.Common.{◌∙◌, inl, inr, zero, suc, add-one}
use Rattle.std.proofs.lemmas.Bool.{cases_Bool, leb-true, eqb-true}
use Rattle.std.proofs.lemmas.List.FromFn.{fill_by_all, sum_by-map-range_with_len_more}
use Rattle.fixed_place.specs.Rounding.{scale}
use Rattle.candidate_roll.specs.Roll.{RollList}
use Rattle.candidate_roll.specs.State.{state_at}
use Rattle.candidate_roll.specs.declared.state.State.{State}
use Rattle.candidate_roll.specs.declared.state.State.TheVariants.{Hopeful, Elected as IsNowElected}
use Rattle.candidate_roll.specs.declared.state.State.TheVariants.{Defeated as IsNowDefeated, Withdrawn}
use Rattle.lot_order.specs.Flags.{mark_at}
use Rattle.lot_order.specs.Lots.{IsOrder}
use Rattle.meek_rule.specs.declared.step.Step.{Step}
use Rattle.meek_rule.specs.declared.step.Step.TheVariants.{Elected, Iterate, Defeat}
use Rattle.meek_rule.specs.Places.{each_place}
use Rattle.meek_rule.specs.Situation.{Situation, IsValid, is_complete, is_full, is_hopeful, is_elected}
use Rattle.meek_rule.specs.Situation.{elected_count, hopeful_count, final_state}
use Rattle.meek_rule.specs.Situation.{final_states, opening}
use Rattle.meek_rule.specs.Row.{Row}
use Rattle.meek_rule.specs.Rule.{Rule}
use Rattle.meek_rule.specs.Weights.{votes_under}
use Rattle.meek_rule.specs.Iteration.{Settle, StepLeaves, elect}
use Rattle.meek_rule.specs.Steps.{AreElectable}
use Rattle.meek_rule.proofs.EndLemmas.{final-hopeful}
use Rattle.meek_rule.proofs.StateCounts.{elected_count-elect, hopeful_count-elect, elected_count-defeat}
use Rattle.meek_rule.proofs.StateCounts.{hopeful_count-defeat}
use Rattle.meek_rule.proofs.ValidLemmas.{winners-electable}
use Rattle.meek_rule.proofs.TestLemmas.{or_cases}
use Rattle.meek_count.specs.Laws.{IsElection}
use Rattle.meek_count.specs.Rows.{Rows, IsCountUnder}
use Rattle.meek_count.proofs.WholeCount.{length-opening, valid-opening_of_roll}
use Rattle.rule_laws.specs.Seats.{running_count}
use Rattle.rule_laws.proofs.Totals.{count_by-total, one_if, states-total, total, total-add, total-same}
use Rattle.rule_laws.proofs.Walk.{IsEnd, IsOpen, is_open, loser_is_hopeful, walk}

-- how many a situation can still elect
abbrev pub electable : Situation → ℕ
electable now = min now.seats (elected_count now.states + hopeful_count now.states)

-- each iteration keeps it
pub settled-electable :
    (s : ℕ) (now : Situation) (votes lots : List ℕ) (row : Row) (next : Situation)
    → Settle s now votes lots row next
    → IsValid s now → is_complete now ≡ false → IsOrder lots → length lots ≡ length now.states
    → electable next ≡ electable now
settled-electable s now votes lots row next settle valid going order same = by_step row.step settle.leaves
  where
    by_step : (step : Step) → StepLeaves s now lots row step next → electable next ≡ electable now
    by_step Elected leaves =
        let can : AreElectable now row.elected =
        winners-electable s now votes lots row.quota row.elected valid settle.winners in
        let more = elected_count-elect now.states row.elected can.same_length can.hopeful in
        let fewer = hopeful_count-elect now.states row.elected can.same_length can.hopeful in
        let together : elected_count (elect now.states row.elected) + hopeful_count
        (elect now.states row.elected) ≡ elected_count
        now.states + hopeful_count now.states =
        omega arith in
        rw leaves.1 (ap (min now.seats) together)
    by_step (Defeat c) leaves =
        let loser = loser_is_hopeful s now lots row next c leaves valid going order same in
        let open_ : IsOpen now = is_open s now valid going in
        let as_many = elected_count-defeat now.states (c - 1) loser.0 loser.1 in
        let fewer = hopeful_count-defeat now.states (c - 1) loser.0 loser.1 in
        rw leaves.4 (omega (arith, open_.more))
    by_step Iterate leaves = rw leaves.3 refl

-- what the end makes of a state
end_full :
    (full : Bool) (state : State) → full ≡ true
    → one_if (is_elected (final_state full state)) ≡ one_if (is_elected state)
end_full true Hopeful full = refl
end_full true IsNowElected full = refl
end_full true IsNowDefeated full = refl
end_full true Withdrawn full = refl
end_full false state full = absurd (cc)

end_open :
    (full : Bool) (state : State) → full ≡ false
    → one_if (is_elected (final_state full state)) ≡ one_if (is_elected state) + one_if (is_hopeful state)
end_open false Hopeful full = refl
end_open false IsNowElected full = refl
end_open false IsNowDefeated full = refl
end_open false Withdrawn full = refl
end_open true state full = absurd (cc)

-- at the end so many are elected
pub end-elected :
    (s : ℕ) (now : Situation) → IsValid s now → is_complete now ≡ true
    → elected_count (final_states now) ≡ electable now
end-elected s now valid complete =
    let n : ℕ = length now.states in
    let full : Bool = is_full now in
    let after :
    elected_count (final_states now)
    ≡ total n (λ p. one_if (is_elected (final_state full (state_at now.states p)))) =
    count_by-total is_elected (λ p. final_state full (state_at now.states p)) n in
    let elected : elected_count now.states ≡ total n (λ p. one_if (is_elected (state_at now.states p))) =
    states-total is_elected now.states in
    let hopeful : hopeful_count now.states ≡ total n (λ p. one_if (is_hopeful (state_at now.states p))) =
    states-total is_hopeful now.states in
    elim (cases_Bool full) [
      | inl taken ↦
          let all : elected_count now.states ≡ now.seats = eqb-true _ _ taken in
          let stays : total n (λ p. one_if (is_elected (final_state full (state_at now.states p)))) ≡ total n
          (λ p. one_if (is_elected (state_at now.states p))) =
          total-same n (λ p. one_if (is_elected (final_state full (state_at now.states p))))
          (λ p. one_if (is_elected (state_at now.states p)))
          (λ p below. end_full full (state_at now.states p) taken) in
          omega arith
      | inr not_full ↦
          let few : elected_count now.states + hopeful_count now.states ≤ now.seats =
          elim (or_cases full _ complete) [
            | inl taken ↦ absurd (let off = sym taken ∙ not_full in cc)
            | inr le ↦ leb-true _ _ le
          ] in
          let joined : total n (λ p. one_if (is_elected (final_state full (state_at now.states p)))) ≡ total n
          (λ p. one_if (is_elected (state_at now.states p)) + one_if (is_hopeful (state_at now.states p))) =
          total-same n (λ p. one_if (is_elected (final_state full (state_at now.states p))))
          (λ p. one_if (is_elected (state_at now.states p)) + one_if (is_hopeful (state_at now.states p)))
          (λ p below. end_open full (state_at now.states p) not_full) in
          let both =
          total-add n (λ p. one_if (is_elected (state_at now.states p)))
          (λ p. one_if (is_hopeful (state_at now.states p))) in
          omega arith
    ]

-- how many a count can elect as it opens
not_elected :
    (gone : Bool)
    → one_if (is_elected (cond gone Withdrawn Hopeful)) + one_if (is_hopeful (cond gone Withdrawn Hopeful))
    ≡ one_if (not gone)
not_elected true = refl
not_elected false = refl

marks-total :
    (marks : List Bool) (n : ℕ) → length marks ≡ n
    → count_by not marks ≡ total n (λ p. one_if (not (mark_at marks p)))
marks-total marks n same = ap (count_by not) (fill_by_all (mark_at marks) marks n false same (λ p below. refl)) ∙ by_places n
  where
    by_places : (k : ℕ) → count_by not (each_place k (mark_at marks)) ≡ total k (λ p. one_if (not (mark_at marks p)))
    by_places zero = refl
    by_places (suc k) =
        subst (λ (m : ℕ). count_by not (each_place m (mark_at marks))
        ≡ total k (λ p. one_if (not (mark_at marks p))) + one_if
        (not (mark_at marks k))) (add-one k)
        (sum_by-map-range_with_len_more (λ (x : Bool). cond (not x) 1 0) (mark_at marks) 0 k k (omega arith) ∙ ap
        (λ (j : ℕ). j + one_if (not (mark_at marks k))) (by_places k))

pub opening-electable :
    (s omega_ seats : ℕ) (withdrawn : List Bool)
    → electable (opening s omega_ seats withdrawn) ≡ min seats (running_count withdrawn)
opening-electable s omega_ seats withdrawn =
    let n : ℕ = length withdrawn in
    let state : ℕ → State = λ p. cond (mark_at withdrawn p) Withdrawn Hopeful in
    let elected = count_by-total is_elected state n in
    let hopeful = count_by-total is_hopeful state n in
    let both = total-add n (λ p. one_if (is_elected (state p))) (λ p. one_if (is_hopeful (state p))) in
    let each :
    total n (λ p. one_if (is_elected (state p)) + one_if (is_hopeful (state p)))
    ≡ total n (λ p. one_if (not (mark_at withdrawn p))) =
    total-same n (λ p. one_if (is_elected (state p)) + one_if (is_hopeful (state p)))
    (λ p. one_if (not (mark_at withdrawn p)))
    (λ p below. not_elected (mark_at withdrawn p)) in
    let marks = marks-total withdrawn n refl in
    let running :
    elected_count (each_place n state) + hopeful_count (each_place n state) ≡ running_count withdrawn =
    omega arith in
    ap (min seats) running

-- what holds of no row in particular
abbrev Any : Row → Type 0
Any row = Unit {0}

all_any : (rows : List Row) → All Any rows
all_any rows = λ k d below. tt

-- as many are elected as there are seats, or all who run
pub count-elected :
    (rule : Rule) (places units : ℕ) (ballots : List (List ℕ)) (roll : RollList) (lots : List ℕ)
    (rows : List Row) (last : List State)
    → IsElection places units ballots roll lots → IsCountUnder rule places units ballots roll lots rows last
    → elected_count last ≡ min roll.seats (running_count roll.withdrawn)
count-elected rule places units ballots roll lots rows last is counted =
    let s : ℕ = scale places in
    let start : Situation = opening s units roll.seats roll.withdrawn in
    let goal_ : ℕ = min roll.seats (running_count roll.withdrawn) in
    let ends : (end : Situation) × IsEnd s (λ now. electable now ≡ goal_) last end =
    walk rule s ballots lots (λ now. electable now ≡ goal_) Any is.order_of_lots
    (λ now row next valid going same settles fine kept. settled-electable s now
    (votes_under rule s now.keeps ballots (length now.states)) lots row
    next settles valid going is.order_of_lots same ∙ kept)
    start rows last
    (valid-opening_of_roll s units roll is.some_omega is.small_omega is.sound_roll)
    (is.lots_of_all ∙ sym (length-opening s units roll is.sound_roll))
    (opening-electable s units roll.seats roll.withdrawn)
    counted (all_any rows) in
    ap elected_count ends.1.last_is ∙ (end-elected s ends.0 ends.1.valid ends.1.complete ∙ ends.1.holds_still)

-- and nobody is hopeful
pub count-none_hopeful :
    (rule : Rule) (places units : ℕ) (ballots : List (List ℕ)) (roll : RollList) (lots : List ℕ)
    (rows : List Row) (last : List State)
    → IsElection places units ballots roll lots → IsCountUnder rule places units ballots roll lots rows last
    → hopeful_count last ≡ 0
count-none_hopeful rule places units ballots roll lots rows last is counted =
    ends (opening (scale places) units roll.seats roll.withdrawn) rows counted
  where
    ends : (now : Situation) (rows : List Row) → Rows rule (scale places) ballots lots now rows last → hopeful_count last ≡ 0
    ends now [] leads = ap hopeful_count leads.1 ∙ final-hopeful now
    ends now (row ∷ rows) leads = ends leads.1.0 rows leads.1.2
