-- Iterations worked by hand, at nine places with an omega of 1,000 units: keep values, and who is capped.
use Rattle.std.specs.Prelude.{ℕ, true, false, Option, Some, None, List, [], ◌∷◌}
use Rattle.candidate_roll.specs.declared.state.State.{State}
use Rattle.candidate_roll.specs.declared.state.State.TheVariants.{Hopeful, Elected as IsElected}
use Rattle.meek_rule.specs.declared.step.Step.TheVariants.{Iterate}
use Rattle.fixed_place.specs.Rounding.{scale}
use Rattle.meek_rule.specs.Situation.{Situation}
use Rattle.meek_rule.specs.Row.{Row}
use Rattle.meek_rule.specs.Iteration.{Settle}

-- an election in its second round
abbrev pub in_round_two : (seats : ℕ) → List State → (keeps : List ℕ) → (iteration : ℕ) → (previous : Option ℕ) → Situation
in_round_two seats states keeps iteration previous = record {
  seats = seats;
  states = states;
  keeps = keeps;
  round = 2;
  iteration = iteration;
  previous = previous;
  omega = 1000;
}

-- Both divisions of a new keep value round up. What the first keeps of the quota is 37037037.4, so 37037038, and that
-- over 333333334 is 111111113.8, so 111111114. With the first rounded down it would be 111111111, and rounded once for
-- both 111111112.
abbrev pub RoundedUpTwice : Type 0
RoundedUpTwice =
    let now = in_round_two 2 (IsElected ∷ Hopeful ∷ Hopeful ∷ []) (333333334 ∷ 1000000000 ∷ 1000000000 ∷ []) 2 (Some 666666666) in
    let row : Row = record {
      round = 2;
      iteration = 2;
      states = now.states;
      keeps = now.keeps;
      votes = 333333334 ∷ 0 ∷ 0 ∷ [];
      total = 333333334;
      quota = 111111112;
      surplus = 222222222;
      elected = false ∷ false ∷ false ∷ [];
      capped = false ∷ false ∷ false ∷ [];
      tied = false ∷ false ∷ false ∷ [];
      step = Iterate;
    } in
    let next : Situation = record now {
      keeps = 111111114 ∷ 1000000000 ∷ 1000000000 ∷ [];
      iteration = 3;
      previous = Some 222222222;
    } in
    Settle (scale 9) now (333333334 ∷ 0 ∷ 0 ∷ []) (1 ∷ 2 ∷ 3 ∷ []) row next

-- An elected candidate without votes keeps its keep value.
abbrev pub NoVotesSameKeep : Type 0
NoVotesSameKeep =
    let now = in_round_two 3 (IsElected ∷ IsElected ∷ Hopeful ∷ Hopeful ∷ [])
    (500000000 ∷ 1000000000 ∷ 1000000000 ∷ 1000000000 ∷ []) 1 None in
    let row : Row = record {
      round = 2;
      iteration = 1;
      states = now.states;
      keeps = now.keeps;
      votes = 0 ∷ 9000000000 ∷ 1000000000 ∷ 1000000000 ∷ [];
      total = 11000000000;
      quota = 2750000001;
      surplus = 3499999998;
      elected = false ∷ false ∷ false ∷ false ∷ [];
      capped = false ∷ false ∷ false ∷ false ∷ [];
      tied = false ∷ false ∷ false ∷ false ∷ [];
      step = Iterate;
    } in
    let next : Situation = record now {
      keeps = 500000000 ∷ 305555556 ∷ 1000000000 ∷ 1000000000 ∷ [];
      iteration = 2;
      previous = Some 3499999998;
    } in
    Settle (scale 9) now (0 ∷ 9000000000 ∷ 1000000000 ∷ 1000000000 ∷ []) (1 ∷ 2 ∷ 3 ∷ 4 ∷ []) row next

-- Whose new keep value is that of one whole vote, and no more, is not capped: the vote of the first is the quota.
abbrev pub OneWholeVoteIsNoCap : Type 0
OneWholeVoteIsNoCap =
    let now = in_round_two 3 (IsElected ∷ IsElected ∷ Hopeful ∷ Hopeful ∷ [])
    (1000000000 ∷ 1000000000 ∷ 1000000000 ∷ 1000000000 ∷ []) 1 None in
    let row : Row = record {
      round = 2;
      iteration = 1;
      states = now.states;
      keeps = now.keeps;
      votes = 4000000001 ∷ 6000000000 ∷ 3500000000 ∷ 2499999999 ∷ [];
      total = 16000000000;
      quota = 4000000001;
      surplus = 1999999999;
      elected = false ∷ false ∷ false ∷ false ∷ [];
      capped = false ∷ false ∷ false ∷ false ∷ [];
      tied = false ∷ false ∷ false ∷ false ∷ [];
      step = Iterate;
    } in
    let next : Situation = record now {
      keeps = 1000000000 ∷ 666666667 ∷ 1000000000 ∷ 1000000000 ∷ [];
      iteration = 2;
      previous = Some 1999999999;
    } in
    Settle (scale 9) now (4000000001 ∷ 6000000000 ∷ 3500000000 ∷ 2499999999 ∷ []) (1 ∷ 2 ∷ 3 ∷ 4 ∷ []) row next

-- Who keeps less than one whole vote can be capped too, and keeps one whole vote then: the first would have got
-- 3200000001 over 2000000000, which is 1600000001.
abbrev pub CappedFromBelowOne : Type 0
CappedFromBelowOne =
    let now = in_round_two 3 (IsElected ∷ IsElected ∷ Hopeful ∷ Hopeful ∷ [])
    (800000000 ∷ 1000000000 ∷ 1000000000 ∷ 1000000000 ∷ []) 1 None in
    let row : Row = record {
      round = 2;
      iteration = 1;
      states = now.states;
      keeps = now.keeps;
      votes = 2000000000 ∷ 9000000000 ∷ 3000000000 ∷ 2000000000 ∷ [];
      total = 16000000000;
      quota = 4000000001;
      surplus = 2999999998;
      elected = false ∷ false ∷ false ∷ false ∷ [];
      capped = true ∷ false ∷ false ∷ false ∷ [];
      tied = false ∷ false ∷ false ∷ false ∷ [];
      step = Iterate;
    } in
    let next : Situation = record now {
      keeps = 1000000000 ∷ 444444445 ∷ 1000000000 ∷ 1000000000 ∷ [];
      iteration = 2;
      previous = Some 2999999998;
    } in
    Settle (scale 9) now (2000000000 ∷ 9000000000 ∷ 3000000000 ∷ 2000000000 ∷ []) (1 ∷ 2 ∷ 3 ∷ 4 ∷ []) row next
