-- What an iteration keeps, whatever its step.
use Rattle.std.proofs.Common.{◌≡◌, ℕ, ◌+◌, ◌-◌, ◌<◌, ◌≤◌, Bool, true, false, cond, List, Option, Some, None}
use Rattle.std.proofs.Common.{length, get_or, take, sum, set, unwrap_or, nat_lt, arith, refl, ap, sym, subst}
use Rattle.std.proofs.Common.{◌∙◌, inl, inr, zero, suc, add-one}
use Rattle.std.proofs.lemmas.Bool.{cases_lt, le-leb}
use Rattle.std.proofs.lemmas.List.{length-set, length-replicate, take_all}
use Rattle.std.proofs.lemmas.List.Sums.{sum_by_more}
use Rattle.std.proofs.lemmas.List.FromFn.{length-map-range_with_len}
use Rattle.candidate_roll.specs.declared.state.State.{State}
use Rattle.candidate_roll.specs.declared.state.State.TheVariants.{Defeated}
use Rattle.candidate_roll.specs.State.{state_at}
use Rattle.lot_order.specs.Lots.{IsOrder, first_marked}
use Rattle.meek_rule.specs.declared.step.Step.{Step}
use Rattle.meek_rule.specs.declared.step.Step.TheVariants.{Elected, Iterate, Defeat}
use Rattle.meek_rule.specs.Places.{each_place, marked_count}
use Rattle.meek_rule.specs.Situation.{Situation, IsValid, IsOnItsWay, is_complete, is_hopeful, hopeful_count, steps_left}
use Rattle.meek_rule.specs.Row.{Row, HasRoomFor}
use Rattle.meek_rule.specs.Surplus.{surplus, holds_seat}
use Rattle.meek_rule.specs.Ties.{tied}
use Rattle.meek_rule.specs.Iteration.{Settle, StepLeaves, elect, has_to_defeat, nobody}
use Rattle.meek_rule.specs.Steps.{AreElectable}
use Rattle.meek_rule.proofs.TestLemmas.{or_right}
use Rattle.meek_rule.proofs.StateCounts.{hopeful_count-elect, hopeful_count-defeat}
use Rattle.meek_rule.proofs.ValidLemmas.{winners-electable, valid-with_elected, valid-with_keeps, valid-with_defeated}
use Rattle.meek_rule.proofs.ProgressLemmas.{nearer_by_round, on_its_way-round, on_its_way-iteration}
use Rattle.meek_rule.proofs.TieLemmas.{somebody_hopeful, loser-hopeful}
use Rattle.meek_rule.proofs.TotalLemmas.{sum_suc}

-- what those at some places have is part of what all have
share-le :
    (holds : ℕ → Bool) (votes : List ℕ) (n : ℕ) → n ≤ length votes
    → sum (each_place n (λ p. cond (holds p) (get_or votes p 0) 0)) ≤ sum (take n votes)
share-le holds votes zero le = omega arith
share-le holds votes (suc n) le =
    let share : ℕ → ℕ = λ p. cond (holds p) (get_or votes p 0) 0 in
    let before : sum (each_place n share) ≤ sum (take n votes) = share-le holds votes n (omega arith) in
    let more : sum (each_place (suc n) share) ≡ sum (each_place n share) + share n = sum_suc share n in
    let all : sum (take (suc n) votes) ≡ sum (take n votes) + get_or votes n 0 =
    subst (λ (m : ℕ). sum (take m votes) ≡ sum (take n votes) + get_or votes n 0) (add-one n)
    (sum_by_more (λ (x : ℕ). x) votes n 0 (omega arith)) in
    let here : share n ≤ get_or votes n 0 = part (holds n) (get_or votes n 0) in
    omega arith
  where
    part : (b : Bool) (v : ℕ) → cond b v 0 ≤ v
    part true v = omega arith
    part false v = omega arith

-- a surplus is part of the votes
pub surplus-le :
    (states : List State) (winners : List Bool) (votes : List ℕ) (q : ℕ) → length votes ≡ length states
    → surplus states winners votes q ≤ sum votes
surplus-le states winners votes q same =
    let n : ℕ = length states in
    let part = share-le (holds_seat states winners) votes n (omega arith) in
    let whole : sum (take n votes) ≡ sum votes = ap sum (take_all n votes (omega arith)) in
    omega arith

pub settled-valid :
    (s : ℕ) (now : Situation) (votes lots : List ℕ) (row : Row) (next : Situation)
    → Settle s now votes lots row next → IsValid s now → is_complete now ≡ false → IsOrder lots
    → length lots ≡ length now.states → IsValid s next
settled-valid s now votes lots row next settle valid open_ order whole = by_step row.step settle.leaves
  where
    by_step : (step : Step) → StepLeaves s now lots row step next → IsValid s next
    by_step Elected leaves = rw leaves.1 (valid-with_elected s now votes lots row.quota row.elected valid settle.winners)
    by_step (Defeat c) leaves =
        let some : 1 ≤ hopeful_count now.states = somebody_hopeful s now valid open_ in
        let loser = loser-hopeful now.states row.votes lots row.surplus order whole some in
        let is : c ≡ first_marked lots (tied now.states row.votes row.surplus) =
        leaves.3 ∙ ap (first_marked lots) leaves.2 in
        rw (leaves.4, is) (valid-with_defeated s now
        (first_marked lots (tied now.states row.votes row.surplus)) valid loser.0 loser.1)
    by_step Iterate leaves = rw leaves.3 (valid-with_keeps s now row.votes row.quota row.surplus valid)

-- as many candidates
pub settled-same :
    (s : ℕ) (now : Situation) (votes lots : List ℕ) (row : Row) (next : Situation)
    → Settle s now votes lots row next → length next.states ≡ length now.states
settled-same s now votes lots row next settle = by_step row.step settle.leaves
  where
    by_step : (step : Step) → StepLeaves s now lots row step next → length next.states ≡ length now.states
    by_step Elected leaves = rw leaves.1 (length-map-range_with_len _ 0 (length now.states))
    by_step (Defeat c) leaves = rw leaves.4 (length-set _ _ _)
    by_step Iterate leaves = rw leaves.3 refl

-- a row's lists are as long as there are candidates
pub settled-room :
    (s : ℕ) (now : Situation) (votes lots : List ℕ) (row : Row) (next : Situation)
    → Settle s now votes lots row next → IsValid s now → length votes ≡ length now.states
    → HasRoomFor (length next.states) row
settled-room s now votes lots row next settle valid all =
    rw (settled-same s now votes lots row next settle) (record {
      states = ap length settle.states;
      keeps = ap length settle.keeps ∙ valid.same_length;
      votes = ap length settle.votes_are ∙ all;
      elected = settle.winners.same_length;
      capped = capped_by row.step settle.leaves;
      tied = tied_by row.step settle.leaves;
    })
  where
    no_marks : length (nobody now) ≡ length now.states
    no_marks = length-replicate (length now.states) false

    capped_by : (step : Step) → StepLeaves s now lots row step next → length row.capped ≡ length now.states
    capped_by Elected leaves = ap length leaves.2 ∙ no_marks
    capped_by (Defeat c) leaves = ap length leaves.5 ∙ no_marks
    capped_by Iterate leaves = ap length leaves.2 ∙ length-map-range_with_len _ 0 (length now.states)

    tied_by : (step : Step) → StepLeaves s now lots row step next → length row.tied ≡ length now.states
    tied_by Elected leaves = ap length leaves.3 ∙ no_marks
    tied_by (Defeat c) leaves = ap length leaves.2 ∙ length-map-range_with_len _ 0 (length now.states)
    tied_by Iterate leaves = ap length leaves.4 ∙ no_marks

-- after a round fewer are hopeful
fewer-elected :
    (s : ℕ) (now : Situation) (marks : List Bool) → IsValid s now → AreElectable now marks
    → 1 ≤ marked_count marks → hopeful_count (elect now.states marks) < hopeful_count now.states
fewer-elected s now marks valid electable some =
    omega (arith, hopeful_count-elect now.states marks electable.same_length electable.hopeful)

fewer-defeated :
    (states : List State) (p : ℕ) → p < length states → is_hopeful (state_at states p) ≡ true
    → hopeful_count (set states p Defeated) < hopeful_count states
fewer-defeated states p inside is = omega (arith, hopeful_count-defeat states p inside is)

-- a surplus that doesn't exhaust a round is below the one before
falls : (now : Situation) (u most : ℕ) → has_to_defeat now u ≡ false → u ≤ most → u < unwrap_or now.previous (most + 1)
falls now u most on few = by_previous now.previous refl
  where
    by_previous : (previous : Option ℕ) → now.previous ≡ previous → u < unwrap_or now.previous (most + 1)
    by_previous None is = rw is (omega arith)
    by_previous (Some before) is =
        elim (cases_lt u before) [
          | inl less ↦ rw is less
          | inr past ↦
              let stays : has_to_defeat now u ≡ true = or_right (nat_lt u now.omega) _ (rw is (le-leb _ _ past)) in
              absurd (let off = sym stays ∙ on in cc)
        ]

pub settled-nearer :
    (s most : ℕ) (now : Situation) (votes lots : List ℕ) (row : Row) (next : Situation)
    → Settle s now votes lots row next → IsValid s now → is_complete now ≡ false → IsOrder lots
    → length lots ≡ length now.states → length votes ≡ length now.states → sum votes ≤ most
    → steps_left most next < steps_left most now
settled-nearer s most now votes lots row next settle valid open_ order whole all few = by_step row.step settle.leaves
  where
    by_step : (step : Step) → StepLeaves s now lots row step next → steps_left most next < steps_left most now
    by_step Elected leaves =
        let electable : AreElectable now row.elected =
        winners-electable s now votes lots row.quota row.elected valid settle.winners in
        rw leaves.1 (nearer_by_round most (hopeful_count (elect now.states row.elected))
        (hopeful_count now.states) (unwrap_or now.previous (most + 1))
        (fewer-elected s now row.elected valid electable leaves.0))
    by_step (Defeat c) leaves =
        let some : 1 ≤ hopeful_count now.states = somebody_hopeful s now valid open_ in
        let loser = loser-hopeful now.states row.votes lots row.surplus order whole some in
        let c_is : ℕ = first_marked lots (tied now.states row.votes row.surplus) in
        let is : c ≡ first_marked lots (tied now.states row.votes row.surplus) =
        leaves.3 ∙ ap (first_marked lots) leaves.2 in
        rw (leaves.4, is)
        (nearer_by_round most (hopeful_count
        (set now.states (first_marked lots (tied now.states row.votes row.surplus) - 1) Defeated))
        (hopeful_count now.states) (unwrap_or now.previous (most + 1))
        (fewer-defeated now.states (first_marked lots (tied now.states row.votes row.surplus) - 1) loser.0 loser.1))
    by_step Iterate leaves =
        let small : row.surplus ≤ most =
        rw settle.surplus_is (omega (arith, surplus-le now.states row.elected votes row.quota all)) in
        let less : row.surplus < unwrap_or now.previous (most + 1) = falls now row.surplus most leaves.1 small in
        rw leaves.3 (omega arith)

pub settled-on_its_way :
    (s most : ℕ) (now : Situation) (votes lots : List ℕ) (row : Row) (next : Situation)
    → Settle s now votes lots row next → IsValid s now → is_complete now ≡ false → IsOrder lots
    → length lots ≡ length now.states → length votes ≡ length now.states → sum votes ≤ most
    → IsOnItsWay most now → IsOnItsWay most next
settled-on_its_way s most now votes lots row next settle valid open_ order whole all few on = by_step row.step settle.leaves
  where
    same : length next.states ≡ length now.states
    same = settled-same s now votes lots row next settle

    by_step : (step : Step) → StepLeaves s now lots row step next → IsOnItsWay most next
    by_step Elected leaves =
        let electable : AreElectable now row.elected =
        winners-electable s now votes lots row.quota row.elected valid settle.winners in
        let fewer : hopeful_count next.states < hopeful_count now.states =
        rw leaves.1 (fewer-elected s now row.elected valid electable leaves.0) in
        on_its_way-round most now next on (ap (λ (x : Situation). x.round) leaves.1)
        (ap (λ (x : Situation). x.iteration) leaves.1) (ap (λ (x : Situation). x.previous) leaves.1) fewer
        same
    by_step (Defeat c) leaves =
        let some : 1 ≤ hopeful_count now.states = somebody_hopeful s now valid open_ in
        let loser = loser-hopeful now.states row.votes lots row.surplus order whole some in
        let is : c ≡ first_marked lots (tied now.states row.votes row.surplus) =
        leaves.3 ∙ ap (first_marked lots) leaves.2 in
        let fewer : hopeful_count next.states < hopeful_count now.states =
        rw (leaves.4, is) (fewer-defeated now.states
        (first_marked lots (tied now.states row.votes row.surplus) - 1) loser.0 loser.1) in
        on_its_way-round most now next on (ap (λ (x : Situation). x.round) leaves.4)
        (ap (λ (x : Situation). x.iteration) leaves.4) (ap (λ (x : Situation). x.previous) leaves.4) fewer
        same
    by_step Iterate leaves =
        let small : row.surplus ≤ most =
        rw settle.surplus_is (omega (arith, surplus-le now.states row.elected votes row.quota all)) in
        let less : row.surplus < unwrap_or now.previous (most + 1) = falls now row.surplus most leaves.1 small in
        on_its_way-iteration most row.surplus now next on (ap (λ (x : Situation). x.round) leaves.3)
        (ap (λ (x : Situation). x.iteration) leaves.3) (ap (λ (x : Situation). x.previous) leaves.3) less
        (ap (λ (x : Situation). x.states) leaves.3)
