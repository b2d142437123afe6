-- With one seat neither the rule, nor the number of places, nor omega makes a difference to who is elected.
use Rattle.std.proofs.Common.{◌≡◌, ◌↔◌, ℕ, ◌+◌, ◌-◌, ◌*◌, ◌<◌, ◌≤◌, ◌==◌, ◌||◌, nat_le, Bool, true, false}
use Rattle.std.proofs.Common.{List, [], ◌∷◌, length, get_or, set, sum, arith, refl, ap, sym, subst, ◌∙◌}
use Rattle.std.proofs.Math.Nat.{add-mul, lt_of_mul-lt-mul_right, mul-lt-mul_of_pos_right, le_of_mul-le-mul_right, mul-le-mul_right}
use Rattle.std.proofs.lemmas.List.FromFn.{fill_by_all, length-map-range_with_len}
use Rattle.fixed_place.specs.Rounding.{scale}
use Rattle.fixed_place.proofs.RoundingLemmas.{scale_pos}
use Rattle.candidate_roll.specs.Roll.{RollList}
use Rattle.candidate_roll.specs.State.{state_at}
use Rattle.candidate_roll.specs.declared.state.State.{State}
use Rattle.candidate_roll.specs.declared.state.State.TheVariants.{Defeated as IsNowDefeated}
use Rattle.lot_order.specs.Flags.{mark_at}
use Rattle.lot_order.specs.Lots.{IsOrder, first_marked}
use Rattle.meek_rule.specs.declared.step.Step.{Step}
use Rattle.meek_rule.specs.declared.step.Step.TheVariants.{Elected, Iterate, Defeat}
use Rattle.meek_rule.specs.Places.{each_place, marked_count}
use Rattle.meek_rule.specs.Situation.{Situation, IsValid, is_complete, elected_count, hopeful_count}
use Rattle.meek_rule.specs.Situation.{final_state, opening}
use Rattle.meek_rule.specs.Row.{Row}
use Rattle.meek_rule.specs.Rule.{Rule}
use Rattle.meek_rule.specs.Ties.{is_tied}
use Rattle.meek_rule.specs.Iteration.{Settle, StepLeaves, elect}
use Rattle.meek_rule.specs.Weights.{votes_under}
use Rattle.meek_rule.proofs.SettleLemmas.{settled-valid, settled-same}
use Rattle.meek_count.specs.Laws.{IsElection}
use Rattle.meek_count.specs.Rows.{Rows, IsCountUnder}
use Rattle.meek_count.proofs.WholeCount.{length-opening, valid-opening_of_roll}
use Rattle.rule_laws.specs.OneSeat.{HasFewest, top_count}
use Rattle.rule_laws.proofs.Runoffs.{hopeful_inside, runoff-decides, runoff-majority, runoff-tied, runoff-votes}
use Rattle.rule_laws.proofs.TopVotes.{one_seat_plain, sum-top}
use Rattle.rule_laws.proofs.Totals.{total}
use Rattle.rule_laws.proofs.Walk.{settled-seats}

same_marks :
    (one other : List Bool) (n : ℕ) → length one ≡ n → length other ≡ n
    → ((p : ℕ) → p < n → (mark_at one p ≡ true) ↔ (mark_at other p ≡ true)) → one ≡ other
same_marks one other n long long_too each =
    fill_by_all (mark_at other) one n false long
    (λ p inside. alike (mark_at one p) (mark_at other p) (each p inside).0 (each p inside).1)
    ∙ sym (fill_by_all (mark_at other) other n false long_too (λ p inside. refl))
  where
    alike : (a b : Bool) → (a ≡ true → b ≡ true) → (b ≡ true → a ≡ true) → a ≡ b
    alike true true there back = refl
    alike true false there back = sym (there refl)
    alike false true there back = back refl
    alike false false there back = refl

-- More than half of the votes is so in any units,
half_by_scale : (s u t v : ℕ) → 1 ≤ u → t * s < 2 * (v * s) → t * u < 2 * (v * u)
half_by_scale s u t v pos more =
    let turned : t * s < (v + v) * s = omega (arith, add-mul v v s) in
    let plain : t < v + v = lt_of_mul-lt-mul_right s turned in
    let there : t * u < (v + v) * u = mul-lt-mul_of_pos_right {k = u} plain pos in
    omega (arith, add-mul v v u)

-- and so are the fewest.
fewest_by_scale :
    (s u : ℕ) (states : List State) (tops : ℕ → ℕ) (votes others : List ℕ) (p : ℕ) → 1 ≤ s
    → ((q : ℕ) → q < length states → get_or votes q 0 ≡ tops q * s)
    → ((q : ℕ) → q < length states → get_or others q 0 ≡ tops q * u)
    → HasFewest states votes p → HasFewest states others p
fewest_by_scale s u states tops votes others p pos first second fewest = record {
  hopeful = fewest.hopeful;
  none_fewer = λ b hopes.
      let inside : p < length states = hopeful_inside states p fewest.hopeful in
      let inside_too : b < length states = hopeful_inside states b hopes in
      let scaled : tops p * s ≤ tops b * s =
      omega (arith, first p inside, first b inside_too, fewest.none_fewer b hopes) in
      let plain : tops p ≤ tops b = le_of_mul-le-mul_right {k = s} scaled pos in
      let there : tops p * u ≤ tops b * u = mul-le-mul_right u plain in
      omega (arith, second p inside, second b inside_too);
}

-- Two iterations with the same states, by any rules, in any units.
module _
    (one other : Rule) (s u : ℕ) (ballots : List (List ℕ)) (lots : List ℕ) (now also : Situation) (row line : Row)
    (next after : Situation) (pos : 1 ≤ s) (pos_too : 1 ≤ u) (valid : IsValid s now) (valid_too : IsValid u also)
    (going : is_complete now ≡ false) (going_too : is_complete also ≡ false) (single : now.seats ≡ 1)
    (single_too : also.seats ≡ 1) (same : now.states ≡ also.states)
    (settle : Settle s now (votes_under one s now.keeps ballots (length now.states)) lots row next)
    (settle_too : Settle u also (votes_under other u also.keeps ballots (length also.states)) lots line after)
  where
    abbrev votes_of_one : List ℕ
    votes_of_one = votes_under one s now.keeps ballots (length now.states)

    abbrev votes_of_other : List ℕ
    votes_of_other = votes_under other u also.keeps ballots (length also.states)

    abbrev tops : ℕ → ℕ
    tops p = top_count now.states ballots (p + 1)

    first_votes : (p : ℕ) → p < length now.states → get_or votes_of_one p 0 ≡ tops p * s
    first_votes = runoff-votes one s ballots lots now row next pos valid going single settle

    second_votes : (p : ℕ) → p < length now.states → get_or votes_of_other p 0 ≡ tops p * u
    second_votes p inside =
        let inside_too : p < length also.states = subst (λ (x : List State). p < length x) same inside in
        runoff-votes other u ballots lots also line after pos_too valid_too going_too single_too settle_too p inside_too
        ∙ ap (λ (x : List State). top_count x ballots (p + 1) * u) (sym same)

    first_total : sum votes_of_one ≡ total (length now.states) tops * s
    first_total =
        sum-top one s now.keeps now.states ballots (length now.states) pos (one_seat_plain s now valid going single)

    second_total : sum votes_of_other ≡ total (length now.states) tops * u
    second_total =
        sum-top other u also.keeps also.states ballots (length also.states) pos_too
        (one_seat_plain u also valid_too going_too single_too)
        ∙ ap (λ (x : List State). total (length x) (λ p. top_count x ballots (p + 1)) * u) (sym same)

    -- whom the one elects the other does,
    wins_too : (p : ℕ) → p < length now.states → mark_at row.elected p ≡ true → mark_at line.elected p ≡ true
    wins_too p inside marked =
        let inside_too : p < length also.states = subst (λ (x : List State). p < length x) same inside in
        let mine = runoff-majority one s ballots lots now row next pos valid going single settle p inside in
        let theirs =
        runoff-majority other u ballots lots also line after pos_too valid_too going_too single_too settle_too p inside_too in
        let more : sum votes_of_one < 2 * get_or votes_of_one p 0 = mine.0 marked in
        let scaled : total (length now.states) tops * s < 2 * (tops p * s) = omega (arith, first_total, first_votes p inside) in
        let there : total (length now.states) tops * u < 2 * (tops p * u) =
        half_by_scale s u (total (length now.states) tops) (tops p) pos_too scaled in
        theirs.1 (omega (arith, second_total, second_votes p inside))

    -- and whom the one may defeat the other may.
    tied_too :
        (c d p : ℕ) → StepLeaves s now lots row (Defeat c) next → StepLeaves u also lots line (Defeat d) after
        → mark_at row.tied p ≡ true → mark_at line.tied p ≡ true
    tied_too c d p leaves leaves_too marked =
        let mine : HasFewest now.states votes_of_one p =
        (runoff-tied one s ballots lots now row next pos valid going single settle c p leaves).0 marked in
        let theirs : HasFewest now.states votes_of_other p =
        fewest_by_scale s u now.states tops votes_of_one votes_of_other p pos first_votes second_votes mine in
        (runoff-tied other u ballots lots also line after pos_too valid_too going_too single_too settle_too d p
        leaves_too).1 (subst (λ (x : List State). HasFewest x votes_of_other p) same theirs)

-- so both leave the same states
step-places :
    (one other : Rule) (s u : ℕ) (ballots : List (List ℕ)) (lots : List ℕ) (now also : Situation) (row line : Row)
    (next after : Situation) → 1 ≤ s → 1 ≤ u → IsValid s now → IsValid u also
    → is_complete now ≡ false → is_complete also ≡ false → now.seats ≡ 1
    → also.seats ≡ 1 → now.states ≡ also.states
    → Settle s now (votes_under one s now.keeps ballots (length now.states)) lots row next
    → Settle u also (votes_under other u also.keeps ballots (length also.states)) lots line after
    → next.states ≡ after.states
step-places one other s u ballots lots now also row line next after pos pos_too valid valid_too going going_too single
    single_too same settle settle_too =
    by_steps row.step line.step refl refl settle.leaves settle_too.leaves
  where
    long : length line.elected ≡ length now.states
    long = settle_too.winners.same_length ∙ ap length (sym same)

    winners : row.elected ≡ line.elected
    winners =
        same_marks row.elected line.elected (length now.states) settle.winners.same_length long (λ p inside. (
          wins_too one other s u ballots lots now also row line next after pos pos_too valid valid_too going going_too
              single single_too same settle settle_too p inside,
          wins_too other one u s ballots lots also now line row after next pos_too pos valid_too valid going_too going
              single_too single (sym same) settle_too settle p (subst (λ (x : List State). p < length x) same inside),
        ))

    tied_alike :
        (c d : ℕ) → StepLeaves s now lots row (Defeat c) next → StepLeaves u also lots line (Defeat d) after
        → row.tied ≡ line.tied
    tied_alike c d leaves leaves_too =
        same_marks row.tied line.tied (length now.states)
        (ap length leaves.2 ∙ length-map-range_with_len (is_tied now.states row.votes row.surplus) 0 (length now.states))
        (ap length leaves_too.2
        ∙ (length-map-range_with_len (is_tied also.states line.votes line.surplus) 0 (length also.states)
        ∙ ap length (sym same)))
        (λ p inside. (
          tied_too one other s u ballots lots now also row line next after pos pos_too valid valid_too going going_too
              single single_too same settle settle_too c d p leaves leaves_too,
          tied_too other one u s ballots lots also now line row after next pos_too pos valid_too valid going_too going
              single_too single (sym same) settle_too settle d c p leaves_too leaves,
        ))

    by_steps :
        (a b : Step) → row.step ≡ a → line.step ≡ b → StepLeaves s now lots row a next → StepLeaves u also lots line b after
        → next.states ≡ after.states
    by_steps Elected Elected is is_too leaves leaves_too =
        ap (λ (x : Situation). x.states) leaves.1
        ∙ ((λ i. elect (same i) (winners i)) ∙ sym (ap (λ (x : Situation). x.states) leaves_too.1))
    by_steps Elected (Defeat d) is is_too leaves leaves_too =
        absurd (let none = ap marked_count winners ∙ leaves_too.0 in omega (arith, leaves.0))
    by_steps (Defeat c) Elected is is_too leaves leaves_too =
        absurd (let none = ap marked_count (sym winners) ∙ leaves.0 in omega (arith, leaves_too.0))
    by_steps (Defeat c) (Defeat d) is is_too leaves leaves_too =
        let loser : c ≡ d =
        leaves.3 ∙ (ap (first_marked lots) (tied_alike c d leaves leaves_too) ∙ sym leaves_too.3) in
        ap (λ (x : Situation). x.states) leaves.4
        ∙ ((λ i. set (same i) (loser i - 1) IsNowDefeated) ∙ sym (ap (λ (x : Situation). x.states) leaves_too.4))
    by_steps Elected Iterate is is_too leaves leaves_too =
        absurd
        (runoff-decides other u ballots lots also line after pos_too valid_too going_too single_too settle_too is_too)
    by_steps (Defeat c) Iterate is is_too leaves leaves_too =
        absurd
        (runoff-decides other u ballots lots also line after pos_too valid_too going_too single_too settle_too is_too)
    by_steps Iterate b is is_too leaves leaves_too =
        absurd (runoff-decides one s ballots lots now row next pos valid going single settle is)

complete_alike :
    (now also : Situation) → now.states ≡ also.states → now.seats ≡ also.seats → is_complete now ≡ is_complete also
complete_alike now also same seats =
    λ i. (elected_count (same i) == seats i) || nat_le (elected_count (same i) + hopeful_count (same i)) (seats i)

rows-places :
    (one other : Rule) (s u : ℕ) (ballots : List (List ℕ)) (lots : List ℕ) (now also : Situation) (rows lines : List Row)
    (last end : List State) → 1 ≤ s → 1 ≤ u → IsValid s now → IsValid u also → IsOrder lots
    → length lots ≡ length now.states → now.seats ≡ 1 → also.seats ≡ 1 → now.states ≡ also.states
    → Rows one s ballots lots now rows last → Rows other u ballots lots also lines end → last ≡ end
rows-places one other s u ballots lots now also [] [] last end pos pos_too valid valid_too order all single single_too
    same first second =
    let seats : now.seats ≡ also.seats = single ∙ sym single_too in
    first.1
    ∙ ((λ i. each_place (length (same i)) (λ p.
    final_state (elected_count (same i) == seats i) (state_at (same i) p))) ∙ sym second.1)
rows-places one other s u ballots lots now also [] (line ∷ lines) last end pos pos_too valid valid_too order all single
    single_too same first second =
    let off = sym first.0 ∙ (complete_alike now also same (single ∙ sym single_too) ∙ second.0) in absurd (cc)
rows-places one other s u ballots lots now also (row ∷ rows) [] last end pos pos_too valid valid_too order all single
    single_too same first second =
    let off = sym second.0 ∙ (sym (complete_alike now also same (single ∙ sym single_too)) ∙ first.0) in absurd (cc)
rows-places one other s u ballots lots now also (row ∷ rows) (line ∷ lines) last end pos pos_too valid valid_too order
    all single single_too same first second =
    let votes : List ℕ = votes_under one s now.keeps ballots (length now.states) in
    let others : List ℕ = votes_under other u also.keeps ballots (length also.states) in
    let next : Situation = first.1.0 in
    let after : Situation = second.1.0 in
    let all_too : length lots ≡ length also.states = all ∙ ap length same in
    rows-places one other s u ballots lots next after rows lines last end pos pos_too
    (settled-valid s now votes lots row next first.1.1 valid first.0 order all)
    (settled-valid u also others lots line after second.1.1 valid_too second.0 order all_too) order
    (all ∙ sym (settled-same s now votes lots row next first.1.1))
    (settled-seats s now votes lots row next first.1.1 ∙ single)
    (settled-seats u also others lots line after second.1.1 ∙ single_too)
    (step-places one other s u ballots lots now also row line next after pos pos_too valid valid_too first.0 second.0
    single single_too same first.1.1 second.1.1)
    first.1.2 second.1.2

pub count-places :
    (one other : Rule) (places more units units_too : ℕ) (ballots : List (List ℕ)) (roll : RollList) (lots : List ℕ)
    (rows lines : List Row) (last end : List State)
    → IsElection places units ballots roll lots → IsElection more units_too ballots roll lots → roll.seats ≡ 1
    → IsCountUnder one places units ballots roll lots rows last
    → IsCountUnder other more units_too ballots roll lots lines end
    → last ≡ end
count-places one other places more units units_too ballots roll lots rows lines last end is is_too single counted
    counted_too =
    let s : ℕ = scale places in
    let u : ℕ = scale more in
    rows-places one other s u ballots lots (opening s units roll.seats roll.withdrawn)
    (opening u units_too roll.seats roll.withdrawn) rows lines last end (scale_pos places) (scale_pos more)
    (valid-opening_of_roll s units roll is.some_omega is.small_omega is.sound_roll)
    (valid-opening_of_roll u units_too roll is_too.some_omega is_too.small_omega is_too.sound_roll) is.order_of_lots
    (is.lots_of_all ∙ sym (length-opening s units roll is.sound_roll)) single single refl counted counted_too
