-- Who is first on more than a share of the ballots is elected in the first iteration.
use Rattle.std.proofs.Common.{◌≡◌, ℕ, ◌+◌, ◌-◌, ◌*◌, ◌/◌, ◌<◌, ◌≤◌, Bool, true, false, cond, List, [], ◌∷◌}
use Rattle.std.proofs.Common.{length, get_or, sum, arith, refl, ap, sym}
use Rattle.std.proofs.Common.{subst, ◌∙◌, inl, inr}
use Rattle.std.proofs.lemmas.Bool.{cases_Bool, and_parts, leb-true, and_from, le-leb, ne_eqb}
use Rattle.std.proofs.lemmas.List.FromFn.{get_or-map-range_with_len, length-map-range_with_len}
use Rattle.fixed_place.specs.Rounding.{scale}
use Rattle.fixed_place.proofs.RoundingLemmas.{scale_pos}
use Rattle.candidate_roll.specs.Roll.{RollList}
use Rattle.candidate_roll.specs.State.{state_at}
use Rattle.candidate_roll.specs.declared.state.State.{State}
use Rattle.candidate_roll.specs.declared.state.State.TheVariants.{Hopeful, Elected as IsNowElected, Withdrawn}
use Rattle.lot_order.specs.Flags.{mark_at}
use Rattle.meek_rule.specs.declared.step.Step.{Step}
use Rattle.meek_rule.specs.declared.step.Step.TheVariants.{Elected, Iterate, Defeat}
use Rattle.meek_rule.specs.Places.{count_places, marked_count}
use Rattle.meek_rule.specs.Situation.{Situation, IsValid, is_hopeful, elected_count, opening, final_state, is_full}
use Rattle.meek_rule.specs.Row.{Row}
use Rattle.meek_rule.specs.Rule.{Rule}
use Rattle.meek_rule.specs.Weights.{vote_under, votes_under}
use Rattle.meek_rule.specs.Iteration.{Settle, StepLeaves}
use Rattle.meek_rule.proofs.SettleLemmas.{settled-valid, settled-same}
use Rattle.meek_count.specs.Laws.{IsElection}
use Rattle.meek_count.specs.Rows.{IsCountUnder, Rows}
use Rattle.meek_count.proofs.WholeCount.{length-opening, valid-opening_of_roll, sum-votes-valid}
use Rattle.rule_laws.specs.Seats.{Becomes, AllBecome}
use Rattle.rule_laws.specs.Majority.{first_count}
use Rattle.lot_order.specs.Lots.{IsOrder}
use Rattle.meek_rule.specs.Quota.{has_reached}
use Rattle.meek_rule.specs.Winners.{AreWinners}
use Rattle.std.proofs.Math.Nat.{lt_of_mul-lt-mul_right}
use Rattle.rule_laws.proofs.Totals.{count-total, list-total, one_if, total, total-le, total-less, total-part, total-times}
use Rattle.rule_laws.proofs.Quotas.{quota_bound, share_enough}
use Rattle.rule_laws.proofs.Decided.{becomes-itself, rows-become}
use Rattle.rule_laws.proofs.TieBreaks.{marked-total}
use Rattle.rule_laws.proofs.MemberSteps.{elect-at}
use Rattle.rule_laws.proofs.Seated.{opening-at, opening-elected}
use Rattle.rule_laws.proofs.Firsts.{first_number, firsts_stay, some_factor}

-- THE FIRST ITERATION

-- No more reach the quota than there are seats.
pub reached_few :
    (n q seats : ℕ) (reached : ℕ → Bool) (v : ℕ → ℕ) → ((p : ℕ) → p < n → reached p ≡ true → q ≤ v p)
    → total n v < (seats + 1) * q
    → total n (λ p. one_if (reached p)) ≤ seats
reached_few n q seats reached v enough few =
    let each : total n (λ p. one_if (reached p) * q) ≤ total n v =
    total-le n (λ p. one_if (reached p) * q) v (λ p inside. point (reached p) q (v p) (enough p inside)) in
    let times = total-times n q (λ p. one_if (reached p)) in
    let less : total n (λ p. one_if (reached p)) * q < (seats + 1) * q = omega arith in
    let fewer : total n (λ p. one_if (reached p)) < seats + 1 = lt_of_mul-lt-mul_right q less in
    omega arith
  where
    point : (t : Bool) (q v : ℕ) → (t ≡ true → q ≤ v) → one_if t * q ≤ v
    point true q v has = omega (arith, has refl)
    point false q v has = omega arith

-- Where there is room for all who have reached the quota all of them are winners.
pub room_for_all :
    (states : List State) (free : ℕ) (votes lots : List ℕ) (q : ℕ) (marks : List Bool) (p : ℕ)
    → AreWinners states free votes lots q marks
    → count_places (length states) (has_reached states votes q) ≤ free
    → p < length states → has_reached states votes q p ≡ true → mark_at marks p ≡ true
room_for_all states free votes lots q marks p winners room inside is =
    elim (cases_Bool (mark_at marks p)) [
      | inl marked ↦ marked
      | inr unmarked ↦
          let n : ℕ = length states in
          let won : marked_count marks ≡ total (length states) (λ c. one_if (mark_at marks c)) =
          marked-total marks ∙ ap (λ (k : ℕ). total k (λ c. one_if (mark_at marks c))) winners.same_length in
          let all :
          count_places (length states) (has_reached states votes q)
          ≡ total (length states) (λ c. one_if (has_reached states votes q c)) =
          count-total (length states) (has_reached states votes q) in
          let none : one_if (mark_at marks p) ≡ 0 = ap one_if unmarked in
          let one : one_if (has_reached states votes q p) ≡ 1 = ap one_if is in
          let fewer :
          total (length states) (λ c. one_if (mark_at marks c))
          < total (length states) (λ c. one_if (has_reached states votes q c)) =
          total-less (length states) p (λ c. one_if (mark_at marks c)) (λ c. one_if (has_reached states votes q c))
          (λ c below_. part (mark_at marks c) (has_reached states votes q c) (winners.reached c)) inside (omega arith) in
          absurd (omega (arith, winners.as_many))
    ]
  where
    part : (a b : Bool) → (a ≡ true → b ≡ true) → one_if a ≤ one_if b
    part false b f = omega arith
    part true b f = let one : one_if b ≡ 1 = ap one_if (f refl) in omega arith

-- who has a quota before anybody is elected is elected
wins_at_once :
    (s : ℕ) (now : Situation) (votes lots : List ℕ) (row : Row) (next : Situation) (p : ℕ)
    → Settle s now votes lots row next
    → IsValid s now → elected_count now.states ≡ 0 → length votes ≡ length now.states
    → p < length now.states → is_hopeful (state_at now.states p) ≡ true → sum votes / (now.seats + 1) + 1 ≤ get_or votes p 0
    → state_at next.states p ≡ IsNowElected
wins_at_once s now votes lots row next p settle valid nobody long inside is enough = by_step row.step settle.leaves
  where
    n : ℕ
    n = length now.states

    reached : has_reached now.states votes row.quota p ≡ true
    reached = and_from (is_hopeful (state_at now.states p)) _ is (le-leb _ _ (omega (arith, settle.quota_is, enough)))

    few : count_places (length now.states) (has_reached now.states votes row.quota) ≤ now.seats - elected_count now.states
    few =
        let bound : sum votes < (now.seats + 1) * row.quota =
        subst (λ (q : ℕ). sum votes < (now.seats + 1) * q) (sym settle.quota_is)
        (quota_bound (sum votes) (now.seats + 1) (omega arith)) in
        let all = list-total votes (length now.states) long in
        let fits =
        reached_few (length now.states) row.quota now.seats (has_reached now.states votes row.quota)
        (λ c. get_or votes c 0)
        (λ c below_ has. leb-true _ _ (and_parts (is_hopeful (state_at now.states c)) _ has).1) (omega arith) in
        omega (arith, count-total (length now.states) (has_reached now.states votes row.quota))

    marked : mark_at row.elected p ≡ true
    marked =
        room_for_all now.states (now.seats - elected_count now.states) votes lots row.quota row.elected p
        settle.winners few inside reached

    some : 1 ≤ marked_count row.elected
    some =
        let below_ : p < length row.elected = omega (arith, settle.winners.same_length) in
        let part = total-part (length row.elected) p (λ c. one_if (mark_at row.elected c)) below_ in
        let one : one_if (mark_at row.elected p) ≡ 1 = ap one_if marked in
        omega (arith, marked-total row.elected)

    by_step : (step : Step) → StepLeaves s now lots row step next → state_at next.states p ≡ IsNowElected
    by_step Elected leaves =
        ap (λ (x : Situation). state_at x.states p) leaves.1
        ∙ (elect-at now.states row.elected p inside ∙ ap (λ (b : Bool). cond b IsNowElected (state_at now.states p)) marked)
    by_step (Defeat c) leaves = absurd (omega (arith, some, leaves.0))
    by_step Iterate leaves = absurd (omega (arith, some, leaves.0))

-- THE COUNT

pub count-first_share :
    (rule : Rule) (places units : ℕ) (ballots : List (List ℕ)) (roll : RollList) (lots : List ℕ)
    (rows : List Row)
    (last : List State) (c : ℕ)
    → IsElection places units ballots roll lots
    → length ballots < first_count roll.withdrawn ballots c * (roll.seats + 1)
    → IsCountUnder rule places units ballots roll lots rows last
    → state_at last (c - 1) ≡ IsNowElected
count-first_share rule places units ballots roll lots rows last c is more counted =
    let s : ℕ = scale places in
    let n : ℕ = length roll.names in
    let start : Situation = opening s units roll.seats roll.withdrawn in
    let valid : IsValid s start = valid-opening_of_roll s units roll is.some_omega is.small_omega is.sound_roll in
    let long : length start.states ≡ n = length-opening s units roll is.sound_roll in
    let some : 1 ≤ first_count roll.withdrawn ballots c =
    some_factor (first_count roll.withdrawn ballots c) (roll.seats + 1) (length ballots) more in
    let runs = first_number n roll.withdrawn ballots c is.rankings some in
    let inside : c - 1 < length start.states = omega (arith, runs.0, runs.1) in
    let at : state_at start.states (c - 1) ≡ Hopeful =
    opening-at s units roll.seats roll.withdrawn (c - 1) (omega (arith, is.sound_roll.same_length))
    ∙ ap (λ (b : Bool). cond b Withdrawn Hopeful) runs.2 in
    let from : AllBecome start.states start.states = λ p below_. becomes-itself (state_at start.states p) in
    let votes : first_count roll.withdrawn ballots c * s ≤ vote_under rule s start.keeps ballots c =
    firsts_stay rule places units ballots roll lots start c is valid long from (ap is_hopeful at) in
    let nobody : elected_count start.states ≡ 0 = opening-elected s units roll.seats roll.withdrawn in
    by_rows rule s ballots lots start rows last (c - 1) (first_count roll.withdrawn ballots c)
    (scale_pos places) valid is.order_of_lots
    (is.lots_of_all ∙ sym long) nobody at inside
    (subst (λ (x : ℕ). first_count roll.withdrawn ballots c * s ≤ vote_under rule s start.keeps ballots x)
    (number runs.0) votes) more counted
  where
    number : {c : ℕ} → 1 ≤ c → c ≡ c - 1 + 1
    number some = omega arith

    by_rows :
        (rule : Rule) (s : ℕ) (ballots : List (List ℕ)) (lots : List ℕ) (now : Situation) (rows : List Row)
        (last : List State) (p h : ℕ)
        → 1 ≤ s → IsValid s now → IsOrder lots → length lots ≡ length now.states
        → elected_count now.states ≡ 0 → state_at now.states p ≡ Hopeful
        → p < length now.states
        → h * s ≤ vote_under rule s now.keeps ballots (p + 1) → length ballots < h * (now.seats + 1)
        → Rows rule s ballots lots now rows last
        → state_at last p ≡ IsNowElected
    by_rows rule s ballots lots now [] last p h pos valid order same nobody at inside votes more leads =
        let open_ : is_full now ≡ false =
        ne_eqb (elected_count now.states) now.seats (λ e. omega (arith, valid.some_seat)) in
        ap (λ (x : List State). state_at x p) leads.1
        ∙ (get_or-map-range_with_len (λ q. final_state (is_full now) (state_at now.states q)) 0
        (length now.states) p p Withdrawn inside (omega arith)
        ∙ (λ i. final_state (open_ i) (at i)))
    by_rows rule s ballots lots now (row ∷ rows) last p h pos valid order same nobody at inside votes more leads =
        let cast : List ℕ = votes_under rule s now.keeps ballots (length now.states) in
        let next : Situation = leads.1.0 in
        let long : length (votes_under rule s now.keeps ballots (length now.states)) ≡ length now.states =
        length-map-range_with_len (λ q. vote_under rule s now.keeps ballots (q + 1)) 0 (length now.states) in
        let vote_at :
        get_or (votes_under rule s now.keeps ballots (length now.states)) p 0
        ≡ vote_under rule s now.keeps ballots (p + 1) =
        get_or-map-range_with_len (λ q. vote_under rule s now.keeps ballots (q + 1)) 0 (length now.states) p p
        0 inside (omega arith) in
        let few : sum (votes_under rule s now.keeps ballots (length now.states)) ≤ length ballots * s =
        sum-votes-valid rule s ballots now pos valid in
        let quota_ : sum (votes_under rule s now.keeps ballots (length now.states)) / (now.seats + 1) + 1 ≤ h * s =
        share_enough (sum (votes_under rule s now.keeps ballots (length now.states))) (length ballots) s h
        now.seats pos few more in
        let won : state_at next.states p ≡ IsNowElected =
        wins_at_once s now (votes_under rule s now.keeps ballots (length now.states)) lots row next p
        leads.1.1 valid nobody long inside
        (ap is_hopeful at) (omega arith) in
        let as_many : length next.states ≡ length now.states = settled-same s now cast lots row next leads.1.1 in
        let later =
        rows-become rule s ballots lots next.states next rows last
        (settled-valid s now cast lots row next leads.1.1 valid leads.0 order same) order
        (same ∙ sym as_many) refl (λ q below_. becomes-itself (state_at next.states q)) leads.1.2 in
        subst (λ (x : State). Becomes x (state_at last p)) won (later.1 p (omega arith))

-- with one seat it is a majority
pub count-majority :
    (rule : Rule) (places units : ℕ) (ballots : List (List ℕ)) (roll : RollList) (lots : List ℕ)
    (rows : List Row) (last : List State) (c : ℕ)
    → IsElection places units ballots roll lots → roll.seats ≡ 1
    → length ballots < 2 * first_count roll.withdrawn ballots c
    → IsCountUnder rule places units ballots roll lots rows last
    → state_at last (c - 1) ≡ IsNowElected
count-majority rule places units ballots roll lots rows last c is one more counted =
    count-first_share rule places units ballots roll lots rows last c is
    (subst (λ (seats : ℕ). length ballots < first_count roll.withdrawn ballots c * (seats + 1)) (sym one)
    (omega arith)) counted
