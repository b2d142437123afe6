-- To come later in the lots changes nothing for who is elected.
use Rattle.std.proofs.Common.{◌≡◌, ◌≢◌, ℕ, ◌+◌, ◌-◌, ◌<◌, ◌==◌, not, Bool, true, false, cond}
use Rattle.std.proofs.Common.{List, [], ◌∷◌, ◌++◌, length, get_or, arith, refl, ap, sym, subst, ◌∙◌, inl, inr}
use Rattle.std.proofs.lemmas.Bool.{cases_Bool, cases_lt, false≢true, ne_eqb, lt-ltb, ltb-true, and_parts, and_from, eq-eqb}
use Rattle.std.proofs.lemmas.Grind.{get_or-set_at}
use Rattle.std.proofs.lemmas.List.FromFn.{get_or-map-range_with_len}
use Rattle.fixed_place.specs.Rounding.{scale}
use Rattle.candidate_roll.specs.Roll.{RollList}
use Rattle.candidate_roll.specs.State.{state_at}
use Rattle.candidate_roll.specs.declared.state.State.{State}
use Rattle.candidate_roll.specs.declared.state.State.TheVariants.{Hopeful, Elected as IsNowElected}
use Rattle.candidate_roll.specs.declared.state.State.TheVariants.{Defeated as IsNowDefeated, Withdrawn}
use Rattle.lot_order.specs.Flags.{mark_at}
use Rattle.lot_order.specs.Lots.{IsOrder, first_marked, place_in}
use Rattle.meek_rule.specs.declared.step.Step.{Step}
use Rattle.meek_rule.specs.declared.step.Step.TheVariants.{Elected, Iterate, Defeat}
use Rattle.meek_rule.specs.Places.{count_places, marked_count}
use Rattle.meek_rule.specs.Situation.{Situation, IsValid, is_complete, is_full, is_hopeful, elected_count}
use Rattle.meek_rule.specs.Situation.{final_state, opening}
use Rattle.meek_rule.specs.Row.{Row}
use Rattle.meek_rule.specs.Rule.{Rule}
use Rattle.meek_rule.specs.Quota.{has_reached}
use Rattle.meek_rule.specs.Winners.{comes_before}
use Rattle.meek_rule.specs.Iteration.{Settle, StepLeaves, elect}
use Rattle.meek_rule.specs.Steps.{AreElectable}
use Rattle.meek_rule.specs.Weights.{votes_under}
use Rattle.meek_rule.proofs.StateCounts.{elected_count-elect}
use Rattle.meek_rule.proofs.ValidLemmas.{winners-electable}
use Rattle.meek_rule.proofs.WinnersByCount.{reached_place}
use Rattle.meek_rule.proofs.SettleLemmas.{settled-valid, settled-same}
use Rattle.meek_rule.proofs.TestLemmas.{or_cases, or_left, or_right}
use Rattle.meek_count.specs.Laws.{IsElection}
use Rattle.meek_count.specs.Rows.{Rows, IsCountUnder}
use Rattle.meek_count.proofs.WholeCount.{length-opening, valid-opening_of_roll}
use Rattle.rule_laws.specs.Seats.{Becomes}
use Rattle.rule_laws.specs.LaterLots.{IsMovedLater}
use Rattle.rule_laws.proofs.Decided.{becomes-itself, rows-become}
use Rattle.rule_laws.proofs.FirstQuota.{room_for_all}
use Rattle.rule_laws.proofs.MemberSteps.{elect-at}
use Rattle.rule_laws.proofs.OtherLots.{settle-lots}
use Rattle.rule_laws.proofs.Walk.{is_open, loser_is_hopeful}

-- THE TWO ORDERS

-- two in the same order after what may be one of them
step_before :
    (x y : Bool) (a b c d : ℕ) → (a < b → c < d) → cond (not x) (1 + a) 0 < cond (not y) (1 + b) 0
    → cond (not x) (1 + c) 0 < cond (not y) (1 + d) 0
step_before true true a b c d f less = absurd (omega arith)
step_before true false a b c d f less = omega arith
step_before false true a b c d f less = absurd (omega arith)
step_before false false a b c d f less = let after : c < d = f (omega arith) in omega arith

past : (t : Bool) (k : ℕ) → t ≡ false → cond (not t) (1 + k) 0 ≡ 1 + k
past true k off = absurd (cc)
past false k off = refl

-- one more among those who come later changes nothing for the others
passed_before :
    (c x y : ℕ) (passed back : List ℕ) → (c == x) ≡ false → (c == y) ≡ false
    → place_in (passed ++ back) x < place_in (passed ++ back) y
    → place_in (passed ++ c ∷ back) x < place_in (passed ++ c ∷ back) y
passed_before c x y [] back x_other y_other less =
    let first : place_in (c ∷ back) x ≡ 1 + place_in back x = past (c == x) (place_in back x) x_other in
    let second : place_in (c ∷ back) y ≡ 1 + place_in back y = past (c == y) (place_in back y) y_other in
    omega arith
passed_before c x y (d ∷ passed) back x_other y_other less =
    step_before (d == x) (d == y) (place_in (passed ++ back) x) (place_in (passed ++ back) y)
    (place_in (passed ++ c ∷ back) x) (place_in (passed ++ c ∷ back) y)
    (passed_before c x y passed back x_other y_other) less

moved_before :
    (c x y : ℕ) (front passed back : List ℕ) → c ≢ x
    → place_in (front ++ c ∷ passed ++ back) x < place_in (front ++ c ∷ passed ++ back) y
    → place_in (front ++ passed ++ c ∷ back) x < place_in (front ++ passed ++ c ∷ back) y
moved_before c x y [] passed back other less =
    let x_other : (c == x) ≡ false = ne_eqb c x other in
    let first : place_in (c ∷ passed ++ back) x ≡ 1 + place_in (passed ++ back) x =
    past (c == x) (place_in (passed ++ back) x) x_other in
    elim (cases_Bool (c == y)) [
      | inl is ↦
          let second : place_in (c ∷ passed ++ back) y ≡ 0 =
          ap (λ (t : Bool). cond (not t) (1 + place_in (passed ++ back) y) 0) is in
          absurd (omega arith)
      | inr y_other ↦
          let second : place_in (c ∷ passed ++ back) y ≡ 1 + place_in (passed ++ back) y =
          past (c == y) (place_in (passed ++ back) y) y_other in
          passed_before c x y passed back x_other y_other (omega arith)
    ]
moved_before c x y (d ∷ front) passed back other less =
    step_before (d == x) (d == y) (place_in (front ++ c ∷ passed ++ back) x) (place_in (front ++ c ∷ passed ++ back) y)
    (place_in (front ++ passed ++ c ∷ back) x) (place_in (front ++ passed ++ c ∷ back) y)
    (moved_before c x y front passed back other) less

-- so who comes before another one than c does so still
before-moved :
    (c : ℕ) (votes lots other : List ℕ) (a b : ℕ) → IsMovedLater c lots other → c ≢ b + 1
    → comes_before votes lots a b ≡ true → comes_before votes other a b ≡ true
before-moved c votes lots other a b moved apart before =
    elim (or_cases _ _ before) [
      | inl more ↦ or_left _ _ more
      | inr equal ↦
          let both = and_parts (get_or votes a 0 == get_or votes b 0) _ equal in
          let less : place_in lots (b + 1) < place_in lots (a + 1) = ltb-true _ _ both.1 in
          let split :
          place_in (moved.front ++ c ∷ moved.passed ++ moved.back) (b + 1)
          < place_in (moved.front ++ c ∷ moved.passed ++ moved.back) (a + 1) =
          subst (λ (x : List ℕ). place_in x (b + 1) < place_in x (a + 1)) moved.lots_are less in
          let after : place_in other (b + 1) < place_in other (a + 1) =
          subst (λ (x : List ℕ). place_in x (b + 1) < place_in x (a + 1)) (sym moved.other_is)
          (moved_before c (b + 1) (a + 1) moved.front moved.passed moved.back apart split) in
          or_right _ _ (and_from (get_or votes a 0 == get_or votes b 0) _ both.0 (lt-ltb _ _ after))
    ]

-- the first of the marked is the same where it is not c
passed_first :
    (c : ℕ) (marks : List Bool) (passed back : List ℕ) → mark_at marks (c - 1) ≡ false
    → first_marked (passed ++ c ∷ back) marks ≡ first_marked (passed ++ back) marks
passed_first c marks [] back unmarked = ap (λ (t : Bool). cond t c (first_marked back marks)) unmarked
passed_first c marks (d ∷ passed) back unmarked =
    ap (λ (x : ℕ). cond (mark_at marks (d - 1)) d x) (passed_first c marks passed back unmarked)

moved_first :
    (c : ℕ) (marks : List Bool) (front passed back : List ℕ)
    → first_marked (front ++ c ∷ passed ++ back) marks ≢ c
    → first_marked (front ++ c ∷ passed ++ back) marks ≡ first_marked (front ++ passed ++ c ∷ back) marks
moved_first c marks [] passed back other =
    elim (cases_Bool (mark_at marks (c - 1))) [
      | inl is ↦ absurd (other (ap (λ (t : Bool). cond t c (first_marked (passed ++ back) marks)) is))
      | inr unmarked ↦
          ap (λ (t : Bool). cond t c (first_marked (passed ++ back) marks)) unmarked
          ∙ sym (passed_first c marks passed back unmarked)
    ]
moved_first c marks (d ∷ front) passed back other =
    let one : ℕ = first_marked (front ++ c ∷ passed ++ back) marks in
    let two : ℕ = first_marked (front ++ passed ++ c ∷ back) marks in
    elim (cases_Bool (mark_at marks (d - 1))) [
      | inl is ↦ ap (λ (t : Bool). cond t d one) is ∙ sym (ap (λ (t : Bool). cond t d two) is)
      | inr unmarked ↦
          let rest : first_marked (front ++ c ∷ passed ++ back) marks ≡ first_marked (front ++ passed ++ c ∷ back) marks =
          moved_first c marks front passed back (λ e. other (ap (λ (t : Bool). cond t d one) unmarked ∙ e)) in
          ap (λ (x : ℕ). cond (mark_at marks (d - 1)) d x) rest
    ]

first-moved :
    (c : ℕ) (marks : List Bool) (lots other : List ℕ) → IsMovedLater c lots other → first_marked lots marks ≢ c
    → first_marked lots marks ≡ first_marked other marks
first-moved c marks lots other moved apart =
    ap (λ (x : List ℕ). first_marked x marks) moved.lots_are
    ∙ (moved_first c marks moved.front moved.passed moved.back
    (λ e. apart (ap (λ (x : List ℕ). first_marked x marks) moved.lots_are ∙ e))
    ∙ sym (ap (λ (x : List ℕ). first_marked x marks) moved.other_is))

-- AN ITERATION

-- It is the same where c is no loser, neither of a tie for a seat nor of one for defeat.
settle-moved :
    (s : ℕ) (now : Situation) (votes lots other : List ℕ) (row : Row) (next : Situation) (c : ℕ)
    → Settle s now votes lots row next → IsMovedLater c lots other
    → (has_reached now.states votes row.quota (c - 1) ≡ true → mark_at row.elected (c - 1) ≡ true)
    → row.step ≢ Defeat c
    → Settle s now votes other row next
settle-moved s now votes lots other row next c settle moved wins stays =
    settle-lots s now votes lots other row next settle comes (λ d is leaves.
    leaves.3
    ∙ first-moved c row.tied lots other moved (λ e. stays (is ∙ ap Defeat (leaves.3 ∙ e))))
  where
    comes :
        (a b : ℕ) → mark_at row.elected a ≡ true → has_reached now.states votes row.quota b ≡ true
        → mark_at row.elected b ≡ false → comes_before votes other a b ≡ true
    comes a b marked reached unmarked =
        let apart : c ≢ b + 1 =
        λ same. (let place : c - 1 ≡ b = omega arith in
        let won : mark_at row.elected b ≡ true =
        subst (λ (p : ℕ). has_reached now.states votes row.quota p ≡ true → mark_at row.elected p ≡ true) place wins
        reached in
        false≢true (sym unmarked ∙ won)) in
        before-moved c votes lots other a b moved apart (settle.winners.first a b marked reached unmarked)

-- THE COUNT

-- who is hopeful where all seats are taken is not elected
full_end :
    (rule : Rule) (s : ℕ) (ballots : List (List ℕ)) (lots : List ℕ) (now : Situation) (rows : List Row) (last : List State)
    (p : ℕ) → Rows rule s ballots lots now rows last → is_full now ≡ true → p < length now.states
    → is_hopeful (state_at now.states p) ≡ true → state_at last p ≢ IsNowElected
full_end rule s ballots lots now [] last p leads full inside is elected =
    let at : state_at last p ≡ final_state (is_full now) (state_at now.states p) =
    ap (λ (x : List State). state_at x p) leads.1
    ∙ get_or-map-range_with_len (λ q. final_state (is_full now) (state_at now.states q)) 0 (length now.states) p p
    Withdrawn inside (omega arith) in
    left_over (is_full now) (state_at now.states p) full is (sym at ∙ elected)
  where
    left_over : (full : Bool) (state : State) → full ≡ true → is_hopeful state ≡ true → final_state full state ≢ IsNowElected
    left_over true Hopeful full is = λ e. cc
    left_over true IsNowElected full is = absurd (cc)
    left_over true IsNowDefeated full is = absurd (cc)
    left_over true Withdrawn full is = absurd (cc)
    left_over false state full is = absurd (cc)
full_end rule s ballots lots now (row ∷ rows) last p leads full inside is elected =
    let ended : is_complete now ≡ true = or_left (is_full now) _ full in
    absurd (let off = sym ended ∙ leads.0 in cc)

-- Who has the quota and is not elected finds all seats taken.
no_seat_left :
    (s : ℕ) (now : Situation) (votes lots : List ℕ) (row : Row) (next : Situation) (p : ℕ)
    → Settle s now votes lots row next → IsValid s now → is_complete now ≡ false
    → has_reached now.states votes row.quota p ≡ true → mark_at row.elected p ≡ false
    → (is_full next ≡ true) × (p < length next.states) × (is_hopeful (state_at next.states p) ≡ true)
no_seat_left s now votes lots row next p settle valid going reached unmarked = by_step row.step settle.leaves
  where
    inside : p < length now.states
    inside = reached_place now.states votes row.quota p reached

    taken : marked_count row.elected ≡ now.seats - elected_count now.states
    taken =
        elim (cases_lt (now.seats - elected_count now.states)
        (count_places (length now.states) (has_reached now.states votes row.quota))) [
          | inl more ↦ omega (arith, settle.winners.as_many)
          | inr room ↦
              absurd
              (false≢true
              (sym unmarked
              ∙ room_for_all now.states (now.seats - elected_count now.states) votes lots row.quota row.elected p
              settle.winners room inside reached))
        ]

    by_step :
        (step : Step) → StepLeaves s now lots row step next
        → (is_full next ≡ true) × (p < length next.states) × (is_hopeful (state_at next.states p) ≡ true)
    by_step Elected leaves =
        let can : AreElectable now row.elected =
        winners-electable s now votes lots row.quota row.elected valid settle.winners in
        let counted : elected_count now.states + marked_count row.elected ≡ elected_count (elect now.states row.elected) =
        elected_count-elect now.states row.elected can.same_length can.hopeful in
        let all : elected_count (elect now.states row.elected) ≡ now.seats =
        omega (arith, taken, (is_open s now valid going).free) in
        let at : state_at next.states p ≡ state_at now.states p =
        ap (λ (x : Situation). state_at x.states p) leaves.1
        ∙ (elect-at now.states row.elected p inside
        ∙ ap (λ (t : Bool). cond t IsNowElected (state_at now.states p)) unmarked) in
        let hopes : is_hopeful (state_at now.states p) ≡ true = (and_parts (is_hopeful (state_at now.states p)) _ reached).0 in (
          rw leaves.1 (eq-eqb _ _ all),
          omega (arith, inside, settled-same s now votes lots row next settle),
          ap is_hopeful at ∙ hopes,
        )
    by_step (Defeat c) leaves = absurd (omega (arith, leaves.0, taken, (is_open s now valid going).free))
    by_step Iterate leaves = absurd (omega (arith, leaves.0, taken, (is_open s now valid going).free))

-- So who has it, and is elected in the end, is elected at once,
reached_wins :
    (rule : Rule) (s : ℕ) (ballots : List (List ℕ)) (lots : List ℕ) (now : Situation) (row : Row) (next : Situation)
    (rows : List Row) (last : List State) (p : ℕ)
    → IsValid s now → is_complete now ≡ false
    → Settle s now (votes_under rule s now.keeps ballots (length now.states)) lots row next
    → Rows rule s ballots lots next rows last → state_at last p ≡ IsNowElected
    → has_reached now.states (votes_under rule s now.keeps ballots (length now.states)) row.quota p ≡ true
    → mark_at row.elected p ≡ true
reached_wins rule s ballots lots now row next rows last p valid going settle leads elected reached =
    elim (cases_Bool (mark_at row.elected p)) [
      | inl marked ↦ marked
      | inr unmarked ↦
          let left =
          no_seat_left s now (votes_under rule s now.keeps ballots (length now.states)) lots row next p settle valid going
          reached unmarked in
          absurd (full_end rule s ballots lots next rows last p leads left.0 left.1 left.2 elected)
    ]

-- and is not defeated.
elected_stays :
    (rule : Rule) (s : ℕ) (ballots : List (List ℕ)) (lots : List ℕ) (now : Situation) (row : Row) (next : Situation)
    (rows : List Row) (last : List State) (c : ℕ)
    → IsValid s now → is_complete now ≡ false → IsOrder lots → length lots ≡ length now.states
    → Settle s now (votes_under rule s now.keeps ballots (length now.states)) lots row next
    → Rows rule s ballots lots next rows last → state_at last (c - 1) ≡ IsNowElected
    → row.step ≢ Defeat c
elected_stays rule s ballots lots now row next rows last c valid going order same settle leads elected is =
    let votes : List ℕ = votes_under rule s now.keeps ballots (length now.states) in
    let leaves : StepLeaves s now lots row (Defeat c) next =
    subst (λ (x : Step). StepLeaves s now lots row x next) is settle.leaves in
    let loser = loser_is_hopeful s now lots row next c leaves valid going order same in
    let out : state_at next.states (c - 1) ≡ IsNowDefeated =
    ap (λ (x : Situation). state_at x.states (c - 1)) leaves.4
    ∙ get_or-set_at now.states (c - 1) (c - 1) IsNowDefeated Withdrawn refl loser.0 in
    let as_many : length next.states ≡ length now.states = settled-same s now votes lots row next settle in
    let later =
    rows-become rule s ballots lots next.states next rows last
    (settled-valid s now votes lots row next settle valid going order same) order
    (same ∙ sym as_many) refl (λ q below. becomes-itself (state_at next.states q)) leads in
    let stays : state_at last (c - 1) ≡ IsNowDefeated =
    subst (λ (x : State). Becomes x (state_at last (c - 1))) out (later.1 (c - 1) (omega (arith, loser.0))) in
    let off = sym stays ∙ elected in cc

rows-moved :
    (rule : Rule) (s : ℕ) (ballots : List (List ℕ)) (lots other : List ℕ) (now : Situation) (rows : List Row)
    (last : List State) (c : ℕ)
    → IsValid s now → IsOrder lots → length lots ≡ length now.states → IsMovedLater c lots other
    → Rows rule s ballots lots now rows last → state_at last (c - 1) ≡ IsNowElected
    → Rows rule s ballots other now rows last
rows-moved rule s ballots lots other now [] last c valid order same moved leads elected = leads
rows-moved rule s ballots lots other now (row ∷ rows) last c valid order same moved leads elected =
    let votes : List ℕ = votes_under rule s now.keeps ballots (length now.states) in
    let next : Situation = leads.1.0 in
    let as_many : length next.states ≡ length now.states = settled-same s now votes lots row next leads.1.1 in (
      leads.0,
      (
        next,
        settle-moved s now votes lots other row next c leads.1.1 moved
            (reached_wins rule s ballots lots now row next rows last (c - 1) valid leads.0 leads.1.1 leads.1.2 elected)
            (elected_stays rule s ballots lots now row next rows last c valid leads.0 order same leads.1.1 leads.1.2
            elected),
        rows-moved rule s ballots lots other next rows last c
            (settled-valid s now votes lots row next leads.1.1 valid leads.0 order same) order
            (same ∙ sym as_many) moved leads.1.2 elected,
      ),
    )

pub count-moved :
    (rule : Rule) (places units : ℕ) (ballots : List (List ℕ)) (roll : RollList) (lots other : List ℕ)
    (rows : List Row) (last : List State) (c : ℕ)
    → IsElection places units ballots roll lots → IsMovedLater c lots other
    → IsCountUnder rule places units ballots roll lots rows last
    → state_at last (c - 1) ≡ IsNowElected
    → IsCountUnder rule places units ballots roll other rows last
count-moved rule places units ballots roll lots other rows last c is moved counted elected =
    let s : ℕ = scale places in
    rows-moved rule s ballots lots other (opening s units roll.seats roll.withdrawn) rows last c
    (valid-opening_of_roll s units roll is.some_omega is.small_omega is.sound_roll) is.order_of_lots
    (is.lots_of_all ∙ sym (length-opening s units roll is.sound_roll)) moved counted elected
