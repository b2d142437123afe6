-- With one seat each iteration is an instant runoff.
use Rattle.std.proofs.Common.{◌≡◌, ◌≢◌, ◌↔◌, ℕ, ◌+◌, ◌-◌, ◌*◌, ◌/◌, ◌<◌, ◌≤◌, ◌||◌, nat_lt, not}
use Rattle.std.proofs.Common.{Bool, true, false, cond, List, [], ◌∷◌, length, get_or, sum, All, arith, refl, ap, sym, subst}
use Rattle.std.proofs.Common.{◌∙◌, inl, inr}
use Rattle.std.proofs.Math.Nat.{div-lt_iff_lt-mul}
use Rattle.std.proofs.lemmas.Bool.{cases_Bool, cases_lt, and_from, and_parts, false≢true, le-leb, leb-true, lt-ltb}
use Rattle.std.proofs.lemmas.List.{get_or_past}
use Rattle.std.proofs.lemmas.List.Elements.{All-nil, All-cons}
use Rattle.std.proofs.lemmas.List.FromFn.{get_or-map-range_with_len, length-map-range_with_len}
use Rattle.fixed_place.specs.Rounding.{scale}
use Rattle.fixed_place.proofs.RoundingLemmas.{scale_pos}
use Rattle.candidate_roll.specs.Roll.{RollList}
use Rattle.candidate_roll.specs.State.{state_at}
use Rattle.candidate_roll.specs.declared.state.State.{State}
use Rattle.candidate_roll.specs.declared.state.State.TheVariants.{Withdrawn}
use Rattle.lot_order.specs.Flags.{mark_at}
use Rattle.lot_order.specs.Lots.{IsOrder}
use Rattle.lot_order.proofs.LotsLemmas.{marked-below}
use Rattle.meek_rule.specs.declared.step.Step.{Step}
use Rattle.meek_rule.specs.declared.step.Step.TheVariants.{Elected, Iterate, Defeat}
use Rattle.meek_rule.specs.Places.{each_place, count_places, marked_count}
use Rattle.meek_rule.specs.Situation.{Situation, IsValid, is_complete, is_hopeful, elected_count, opening}
use Rattle.meek_rule.specs.Row.{Row}
use Rattle.meek_rule.specs.Rule.{Rule}
use Rattle.meek_rule.specs.Quota.{has_reached}
use Rattle.meek_rule.specs.Ties.{tied, is_tied, is_within_surplus}
use Rattle.meek_rule.specs.Surplus.{holds_seat}
use Rattle.meek_rule.specs.Iteration.{Settle, StepLeaves, has_to_defeat}
use Rattle.meek_rule.specs.Weights.{vote_under, votes_under}
use Rattle.meek_rule.proofs.PlaceLemmas.{all_from, all_places}
use Rattle.meek_rule.proofs.SettleLemmas.{settled-valid, settled-same}
use Rattle.meek_rule.proofs.TestLemmas.{implied, or_left, or_right}
use Rattle.meek_rule.proofs.TieLemmas.{tied-hopeful}
use Rattle.meek_count.specs.Laws.{IsElection}
use Rattle.meek_count.specs.Rows.{Rows, IsCountUnder}
use Rattle.meek_count.proofs.WholeCount.{length-opening, valid-opening_of_roll}
use Rattle.rule_laws.specs.OneSeat.{HasFewest, IsRunoff, top_count}
use Rattle.rule_laws.proofs.FirstQuota.{reached_few, room_for_all}
use Rattle.rule_laws.proofs.LeftOver.{one_seat_open}
use Rattle.rule_laws.proofs.Quotas.{quota_bound}
use Rattle.rule_laws.proofs.TieBreaks.{marked-total}
use Rattle.rule_laws.proofs.TopVotes.{one_seat_plain, top_count-none, votes-top}
use Rattle.rule_laws.proofs.Totals.{count-total, list-total, one_if, sum-total, total, total-none, total-part}
use Rattle.rule_laws.proofs.Walk.{is_open, settled-seats}

-- THE TIED

pub hopeful_inside : (states : List State) (p : ℕ) → is_hopeful (state_at states p) ≡ true → p < length states
hopeful_inside states p is =
    elim (cases_lt p (length states)) [
      | inl inside ↦ inside
      | inr past ↦
          let out : is_hopeful (state_at states p) ≡ false = ap is_hopeful (get_or_past states p Withdrawn past) in
          absurd (false≢true (sym out ∙ is))
    ]

-- without a surplus the tied are those with the fewest votes
tied-fewest :
    (states : List State) (votes : List ℕ) (p : ℕ)
    → (mark_at (tied states votes 0) p ≡ true) ↔ HasFewest states votes p
tied-fewest states votes p = (there, back)
  where
    at : p < length states → mark_at (tied states votes 0) p ≡ is_tied states votes 0 p
    at inside =
        get_or-map-range_with_len (is_tied states votes 0) 0 (length states) p p false inside (omega arith)

    there : mark_at (tied states votes 0) p ≡ true → HasFewest states votes p
    there marked =
        let is = tied-hopeful states votes 0 p marked in
        let test = and_parts (is_hopeful (state_at states p)) _ (sym (at is.0) ∙ marked) in
        record {
          hopeful = is.1;
          none_fewer = λ b hopes.
              let within : is_within_surplus states votes 0 p b ≡ true =
              all_places (is_within_surplus states votes 0 p) (length states) b test.1 (hopeful_inside states b hopes) in
              let least : get_or votes p 0 ≤ get_or votes b 0 + 0 =
              leb-true _ _ (implied (is_hopeful (state_at states b)) _ within hopes) in
              omega arith;
        }

    back : HasFewest states votes p → mark_at (tied states votes 0) p ≡ true
    back fewest =
        at (hopeful_inside states p fewest.hopeful)
        ∙ and_from (is_hopeful (state_at states p)) _ fewest.hopeful
        (all_from (is_within_surplus states votes 0 p) (length states) (λ b inside.
        elim (cases_Bool (is_hopeful (state_at states b))) [
          | inl hopes ↦
              let least : get_or votes p 0 ≤ get_or votes b 0 = fewest.none_fewer b hopes in
              or_right (not (is_hopeful (state_at states b))) _ (le-leb _ _ (omega arith))
          | inr fails ↦ or_left (not (is_hopeful (state_at states b))) _ (ap not fails)
        ]))

-- WHO IS ELECTED

-- half of the votes and one unit more is more than half of the votes
more_than_half : (t v : ℕ) → (t / (1 + 1) + 1 ≤ v) ↔ (t < 2 * v)
more_than_half t v = (
  (λ enough. omega (arith, quota_bound t 2 (omega arith), enough)),
  (λ more. (let part : t / 2 < v = (div-lt_iff_lt-mul {k = 2} {x = t} {y = v} (omega arith)).1 (omega arith) in omega arith)),
)

-- without a winner nobody is marked
none_marked : (marks : List Bool) (p : ℕ) → marked_count marks ≡ 0 → mark_at marks p ≡ false
none_marked marks p none =
    elim (cases_Bool (mark_at marks p)) [
      | inr unmarked ↦ unmarked
      | inl marked ↦
          let part = total-part (length marks) p (λ c. one_if (mark_at marks c)) (marked-below marks p marked) in
          let one : one_if (mark_at marks p) ≡ 1 = ap one_if marked in
          absurd (omega (arith, marked-total marks))
    ]

-- With one seat, in an iteration that is not the end.
module _
    (rule : Rule) (s : ℕ) (ballots : List (List ℕ)) (lots : List ℕ) (now : Situation) (row : Row) (next : Situation)
    (pos : 1 ≤ s) (valid : IsValid s now) (going : is_complete now ≡ false) (one : now.seats ≡ 1)
    (settle : Settle s now (votes_under rule s now.keeps ballots (length now.states)) lots row next)
  where
    abbrev cast_votes : List ℕ
    cast_votes = votes_under rule s now.keeps ballots (length now.states)

    pub runoff-votes : (p : ℕ) → p < length now.states → get_or cast_votes p 0 ≡ top_count now.states ballots (p + 1) * s
    runoff-votes p inside =
        votes-top rule s now.keeps now.states ballots (length now.states) p pos (one_seat_plain s now valid going one) inside

    runoff-quota : row.quota ≡ sum cast_votes / (1 + 1) + 1
    runoff-quota = settle.quota_is ∙ ap (λ (k : ℕ). sum cast_votes / (k + 1) + 1) one

    -- whoever has more than half of the votes is the winner
    pub runoff-majority :
        (p : ℕ) → p < length now.states → (mark_at row.elected p ≡ true) ↔ (sum cast_votes < 2 * get_or cast_votes p 0)
    runoff-majority p inside = (there, back)
      where
        there : mark_at row.elected p ≡ true → sum cast_votes < 2 * get_or cast_votes p 0
        there marked =
            let reached : row.quota ≤ get_or cast_votes p 0 =
            leb-true _ _ (and_parts (is_hopeful (state_at now.states p)) _ (settle.winners.reached p marked)).1 in
            (more_than_half (sum cast_votes) (get_or cast_votes p 0)).0
            (subst (λ (q : ℕ). q ≤ get_or cast_votes p 0) runoff-quota reached)

        back : sum cast_votes < 2 * get_or cast_votes p 0 → mark_at row.elected p ≡ true
        back more =
            let hopes : is_hopeful (state_at now.states p) ≡ true =
            elim (cases_Bool (is_hopeful (state_at now.states p))) [
              | inl is ↦ is
              | inr out ↦
                  let place : p + 1 - 1 ≡ p = omega arith in
                  let none : top_count now.states ballots (p + 1) ≡ 0 =
                  top_count-none now.states ballots (p + 1)
                  (ap (λ (k : ℕ). is_hopeful (state_at now.states k)) place ∙ out) in
                  let nothing : get_or cast_votes p 0 ≡ 0 * s = runoff-votes p inside ∙ ap (λ (k : ℕ). k * s) none in
                  absurd (omega arith)
            ] in
            let enough : row.quota ≤ get_or cast_votes p 0 =
            subst (λ (q : ℕ). q ≤ get_or cast_votes p 0) (sym runoff-quota)
            ((more_than_half (sum cast_votes) (get_or cast_votes p 0)).1 more) in
            let long : length cast_votes ≡ length now.states =
            length-map-range_with_len (λ q. vote_under rule s now.keeps ballots (q + 1)) 0 (length now.states) in
            let bound : sum cast_votes < (1 + 1) * row.quota =
            subst (λ (q : ℕ). sum cast_votes < 2 * q) (sym runoff-quota) (quota_bound (sum cast_votes) 2 (omega arith)) in
            let few : total (length now.states) (λ c. one_if (has_reached now.states cast_votes row.quota c)) ≤ 1 =
            reached_few (length now.states) row.quota 1 (has_reached now.states cast_votes row.quota)
            (λ c. get_or cast_votes c 0)
            (λ c below has. leb-true _ _ (and_parts (is_hopeful (state_at now.states c)) _ has).1)
            (omega (arith, list-total cast_votes (length now.states) long)) in
            let room : count_places (length now.states) (has_reached now.states cast_votes row.quota)
            ≤ now.seats - elected_count now.states =
            omega (
              arith,
              count-total (length now.states) (has_reached now.states cast_votes row.quota),
              (is_open s now valid going).free,
            ) in
            room_for_all now.states (now.seats - elected_count now.states) cast_votes lots row.quota row.elected p
            settle.winners room inside
            (and_from (is_hopeful (state_at now.states p)) _ hopes (le-leb _ _ enough))

    -- without a winner nobody holds a seat, and there is no surplus
    runoff-surplus : marked_count row.elected ≡ 0 → row.surplus ≡ 0
    runoff-surplus none =
        let n : ℕ = length now.states in
        let held : ℕ → ℕ = λ p. cond (holds_seat now.states row.elected p) (get_or cast_votes p 0) 0 in
        let each : total n held ≡ 0 = total-none n held (λ p inside.
        nothing (holds_seat now.states row.elected p) (get_or cast_votes p 0)
        (λ i. one_seat_open s now valid going one p inside i || none_marked row.elected p none i)) in
        settle.surplus_is
        ∙ none_left (sum (each_place n held)) (count_places n (holds_seat now.states row.elected) * row.quota)
        (sum-total n held ∙ each)
      where
        nothing : (holds : Bool) (v : ℕ) → holds ≡ false → cond holds v 0 ≡ 0
        nothing true v off = absurd (cc)
        nothing false v off = refl

        none_left : (a b : ℕ) → a ≡ 0 → a - b ≡ 0
        none_left a b none = omega arith

    -- so the iteration elects or defeats
    pub runoff-decides : row.step ≢ Iterate
    runoff-decides is =
        let leaves : StepLeaves s now lots row Iterate next =
        subst (λ (x : Step). StepLeaves s now lots row x next) is settle.leaves in
        let small : has_to_defeat now row.surplus ≡ true =
        or_left (nat_lt row.surplus now.omega) _ (lt-ltb _ _ (omega (arith, runoff-surplus leaves.0, valid.some_omega))) in
        false≢true (sym leaves.1 ∙ small)

    -- and whom it may defeat have the fewest votes
    pub runoff-tied : (c p : ℕ) → StepLeaves s now lots row (Defeat c) next
        → (mark_at row.tied p ≡ true) ↔ HasFewest now.states cast_votes p
    runoff-tied c p leaves =
        let is : row.tied ≡ tied now.states cast_votes 0 =
        leaves.2 ∙ (λ i. tied now.states (settle.votes_are i) (runoff-surplus leaves.0 i)) in
        subst (λ (marks : List Bool). (mark_at marks p ≡ true) ↔ HasFewest now.states cast_votes p) (sym is)
        (tied-fewest now.states cast_votes p)

    -- The next iteration is the first of a round too.
    runoff-iteration : next.iteration ≡ 1
    runoff-iteration = by_step row.step refl settle.leaves
      where
        by_step : (step : Step) → row.step ≡ step → StepLeaves s now lots row step next → next.iteration ≡ 1
        by_step Elected is leaves = ap (λ (x : Situation). x.iteration) leaves.1
        by_step (Defeat c) is leaves = ap (λ (x : Situation). x.iteration) leaves.4
        by_step Iterate is leaves = absurd (runoff-decides is)

    runoff : now.iteration ≡ 1 → IsRunoff s ballots lots row
    runoff first = record {
      iteration = settle.iteration ∙ first;
      decides = runoff-decides;
      votes = λ p inside.
          let place : p < length now.states = subst (λ (x : List State). p < length x) settle.states inside in
          ap (λ (v : List ℕ). get_or v p 0) settle.votes_are
          ∙ (runoff-votes p place
          ∙ ap (λ (x : List State). top_count x ballots (p + 1) * s) (sym settle.states));
      majority = λ p inside.
          let place : p < length now.states = subst (λ (x : List State). p < length x) settle.states inside in
          let both = runoff-majority p place in
          let vote_is : get_or row.votes p 0 ≡ get_or cast_votes p 0 = ap (λ (v : List ℕ). get_or v p 0) settle.votes_are in
          ((λ marked. omega (arith, both.0 marked, settle.total)), (λ more. both.1 (omega (arith, settle.total))));
      surplus = λ c is. runoff-surplus (subst (λ (x : Step). StepLeaves s now lots row x next) is settle.leaves).0;
      fewest = λ c p is.
          let leaves : StepLeaves s now lots row (Defeat c) next =
          subst (λ (x : Step). StepLeaves s now lots row x next) is settle.leaves in
          let by_votes : (mark_at row.tied p ≡ true) ↔ HasFewest now.states row.votes p =
          subst (λ (v : List ℕ). (mark_at row.tied p ≡ true) ↔ HasFewest now.states v p) (sym settle.votes_are)
          (runoff-tied c p leaves) in
          subst (λ (x : List State). (mark_at row.tied p ≡ true) ↔ HasFewest x row.votes p) (sym settle.states) by_votes;
      loser = λ c is. (subst (λ (x : Step). StepLeaves s now lots row x next) is settle.leaves).3;
    }

-- THE COUNT

rows-runoffs :
    (rule : Rule) (s : ℕ) (ballots : List (List ℕ)) (lots : List ℕ) (now : Situation) (rows : List Row) (last : List State)
    → 1 ≤ s → IsValid s now → IsOrder lots → length lots ≡ length now.states → now.seats ≡ 1 → now.iteration ≡ 1
    → Rows rule s ballots lots now rows last → All (IsRunoff s ballots lots) rows
rows-runoffs rule s ballots lots now [] last pos valid order same one first leads = All-nil (IsRunoff s ballots lots)
rows-runoffs rule s ballots lots now (row ∷ rows) last pos valid order same one first leads =
    let votes : List ℕ = votes_under rule s now.keeps ballots (length now.states) in
    let next : Situation = leads.1.0 in
    All-cons (IsRunoff s ballots lots) row rows
    (runoff rule s ballots lots now row next pos valid leads.0 one leads.1.1 first)
    (rows-runoffs rule s ballots lots next rows last pos
    (settled-valid s now votes lots row next leads.1.1 valid leads.0 order same) order
    (same ∙ sym (settled-same s now votes lots row next leads.1.1))
    (settled-seats s now votes lots row next leads.1.1 ∙ one)
    (runoff-iteration rule s ballots lots now row next pos valid leads.0 one leads.1.1) leads.1.2)

pub count-runoffs :
    (rule : Rule) (places units : ℕ) (ballots : List (List ℕ)) (roll : RollList) (lots : List ℕ)
    (rows : List Row) (last : List State)
    → IsElection places units ballots roll lots → roll.seats ≡ 1
    → IsCountUnder rule places units ballots roll lots rows last
    → All (IsRunoff (scale places) ballots lots) rows
count-runoffs rule places units ballots roll lots rows last is one counted =
    let s : ℕ = scale places in
    rows-runoffs rule s ballots lots (opening s units roll.seats roll.withdrawn) rows last (scale_pos places)
    (valid-opening_of_roll s units roll is.some_omega is.small_omega is.sound_roll) is.order_of_lots
    (is.lots_of_all ∙ sym (length-opening s units roll is.sound_roll)) one refl counted
