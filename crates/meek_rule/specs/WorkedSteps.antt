-- Iterations worked by hand, at nine places: lots where they decide, a count's own omega, and what a step leaves.
use Rattle.std.specs.Prelude.{true, false, Some, None, [], ◌∷◌}
use Rattle.candidate_roll.specs.declared.state.State.TheVariants.{Hopeful, Elected as IsElected, Defeated}
use Rattle.meek_rule.specs.declared.step.Step.TheVariants.{Elected, Iterate, Defeat}
use Rattle.fixed_place.specs.Rounding.{scale}
use Rattle.meek_rule.specs.Situation.{Situation}
use Rattle.meek_rule.specs.Row.{Row}
use Rattle.meek_rule.specs.Iteration.{Settle}
use Rattle.meek_rule.specs.WorkedKeeps.{in_round_two}

-- Two reach the quota with the same votes and one seat is left: who is later in the lots is elected, which is 1, though its
-- number is the lesser.
abbrev pub OverfillByLots : Type 0
OverfillByLots =
    let now = in_round_two 2 (Hopeful ∷ Hopeful ∷ IsElected ∷ []) (1000000000 ∷ 1000000000 ∷ 1000000000 ∷ []) 1 None in
    let row : Row = record {
      round = 2;
      iteration = 1;
      states = now.states;
      keeps = now.keeps;
      votes = 4000000001 ∷ 4000000001 ∷ 3999999998 ∷ [];
      total = 12000000000;
      quota = 4000000001;
      surplus = 0;
      elected = true ∷ false ∷ false ∷ [];
      capped = false ∷ false ∷ false ∷ [];
      tied = false ∷ false ∷ false ∷ [];
      step = Elected;
    } in
    let next : Situation = record now {
      states = IsElected ∷ Hopeful ∷ IsElected ∷ [];
      round = 3;
    } in
    Settle (scale 9) now (4000000001 ∷ 4000000001 ∷ 3999999998 ∷ []) (2 ∷ 3 ∷ 1 ∷ []) row next

-- An elected candidate below the quota is not capped where its new keep value is below one whole vote: 2000000001 over
-- 3600000000 is 555555555.8, so 555555556.
abbrev pub BelowTheQuotaIsNoCap : Type 0
BelowTheQuotaIsNoCap =
    let now = in_round_two 3 (IsElected ∷ IsElected ∷ Hopeful ∷ Hopeful ∷ [])
    (500000000 ∷ 1000000000 ∷ 1000000000 ∷ 1000000000 ∷ []) 1 None in
    let row : Row = record {
      round = 2;
      iteration = 1;
      states = now.states;
      keeps = now.keeps;
      votes = 3600000000 ∷ 7000000000 ∷ 3000000000 ∷ 2400000000 ∷ [];
      total = 16000000000;
      quota = 4000000001;
      surplus = 2599999998;
      elected = false ∷ false ∷ false ∷ false ∷ [];
      capped = false ∷ false ∷ false ∷ false ∷ [];
      tied = false ∷ false ∷ false ∷ false ∷ [];
      step = Iterate;
    } in
    let next : Situation = record now {
      keeps = 555555556 ∷ 571428572 ∷ 1000000000 ∷ 1000000000 ∷ [];
      iteration = 2;
      previous = Some 2599999998;
    } in
    Settle (scale 9) now (3600000000 ∷ 7000000000 ∷ 3000000000 ∷ 2400000000 ∷ []) (1 ∷ 2 ∷ 3 ∷ 4 ∷ []) row next

-- A count's own omega of 2,000 units: a surplus of 1,000 is below it.
abbrev pub OmegaAboveTheSurplus : Type 0
OmegaAboveTheSurplus =
    let before = in_round_two 2 (IsElected ∷ Hopeful ∷ Hopeful ∷ [])
    (1000000000 ∷ 1000000000 ∷ 1000000000 ∷ []) 1 None in
    let now : Situation = record before { omega = 2000 } in
    let row : Row = record {
      round = 2;
      iteration = 1;
      states = now.states;
      keeps = now.keeps;
      votes = 4000001001 ∷ 4000000000 ∷ 3999998999 ∷ [];
      total = 12000000000;
      quota = 4000000001;
      surplus = 1000;
      elected = false ∷ false ∷ false ∷ [];
      capped = false ∷ false ∷ false ∷ [];
      tied = false ∷ false ∷ true ∷ [];
      step = Defeat 3;
    } in
    let next : Situation = record now {
      states = IsElected ∷ Hopeful ∷ Defeated ∷ [];
      keeps = 1000000000 ∷ 1000000000 ∷ 0 ∷ [];
      round = 3;
    } in
    Settle (scale 9) now (4000001001 ∷ 4000000000 ∷ 3999998999 ∷ []) (1 ∷ 2 ∷ 3 ∷ []) row next

-- A count's own omega of 999 units: a surplus of 999 is not below it, and is transferred.
abbrev pub OmegaOfTheSurplus : Type 0
OmegaOfTheSurplus =
    let before = in_round_two 2 (IsElected ∷ Hopeful ∷ Hopeful ∷ [])
    (1000000000 ∷ 1000000000 ∷ 1000000000 ∷ []) 1 None in
    let now : Situation = record before { omega = 999 } in
    let row : Row = record {
      round = 2;
      iteration = 1;
      states = now.states;
      keeps = now.keeps;
      votes = 4000001000 ∷ 4000000000 ∷ 3999999000 ∷ [];
      total = 12000000000;
      quota = 4000000001;
      surplus = 999;
      elected = false ∷ false ∷ false ∷ [];
      capped = false ∷ false ∷ false ∷ [];
      tied = false ∷ false ∷ false ∷ [];
      step = Iterate;
    } in
    let next : Situation = record now {
      keeps = 999999751 ∷ 1000000000 ∷ 1000000000 ∷ [];
      iteration = 2;
      previous = Some 999;
    } in
    Settle (scale 9) now (4000001000 ∷ 4000000000 ∷ 3999999000 ∷ []) (1 ∷ 2 ∷ 3 ∷ []) row next

-- Who is elected in a third iteration begins a new round at its first iteration, without a surplus before.
abbrev pub ElectedInAThirdIteration : Type 0
ElectedInAThirdIteration =
    let now = in_round_two 3 (IsElected ∷ Hopeful ∷ Hopeful ∷ Hopeful ∷ [])
    (1000000000 ∷ 1000000000 ∷ 1000000000 ∷ 1000000000 ∷ []) 3 (Some 5000000000) in
    let row : Row = record {
      round = 2;
      iteration = 3;
      states = now.states;
      keeps = now.keeps;
      votes = 6000000000 ∷ 4000000000 ∷ 1000000000 ∷ 1000000000 ∷ [];
      total = 12000000000;
      quota = 3000000001;
      surplus = 3999999998;
      elected = false ∷ true ∷ false ∷ false ∷ [];
      capped = false ∷ false ∷ false ∷ false ∷ [];
      tied = false ∷ false ∷ false ∷ false ∷ [];
      step = Elected;
    } in
    let next : Situation = record now {
      states = IsElected ∷ IsElected ∷ Hopeful ∷ Hopeful ∷ [];
      round = 3;
      iteration = 1;
      previous = None;
    } in
    Settle (scale 9) now (6000000000 ∷ 4000000000 ∷ 1000000000 ∷ 1000000000 ∷ []) (1 ∷ 2 ∷ 3 ∷ 4 ∷ []) row next

-- Of the tied the one earlier in the lots is defeated, though its number is the greater.
abbrev pub TieByLots : Type 0
TieByLots =
    let now = in_round_two 2 (IsElected ∷ Hopeful ∷ Hopeful ∷ Hopeful ∷ [])
    (1000000000 ∷ 1000000000 ∷ 1000000000 ∷ 1000000000 ∷ []) 1 None in
    let row : Row = record {
      round = 2;
      iteration = 1;
      states = now.states;
      keeps = now.keeps;
      votes = 4000000601 ∷ 3000000000 ∷ 2499999999 ∷ 2499999400 ∷ [];
      total = 12000000000;
      quota = 4000000001;
      surplus = 600;
      elected = false ∷ false ∷ false ∷ false ∷ [];
      capped = false ∷ false ∷ false ∷ false ∷ [];
      tied = false ∷ false ∷ true ∷ true ∷ [];
      step = Defeat 4;
    } in
    let next : Situation = record now {
      states = IsElected ∷ Hopeful ∷ Hopeful ∷ Defeated ∷ [];
      keeps = 1000000000 ∷ 1000000000 ∷ 1000000000 ∷ 0 ∷ [];
      round = 3;
    } in
    Settle (scale 9) now (4000000601 ∷ 3000000000 ∷ 2499999999 ∷ 2499999400 ∷ []) (4 ∷ 1 ∷ 2 ∷ 3 ∷ []) row next

-- All who reach the quota are elected in one iteration.
abbrev pub TwoAtOnce : Type 0
TwoAtOnce =
    let before = in_round_two 3 (Hopeful ∷ Hopeful ∷ Hopeful ∷ Hopeful ∷ [])
    (1000000000 ∷ 1000000000 ∷ 1000000000 ∷ 1000000000 ∷ []) 1 None in
    let now : Situation = record before { round = 1 } in
    let row : Row = record {
      round = 1;
      iteration = 1;
      states = now.states;
      keeps = now.keeps;
      votes = 0 ∷ 0 ∷ 5000000000 ∷ 9000000000 ∷ [];
      total = 14000000000;
      quota = 3500000001;
      surplus = 6999999998;
      elected = false ∷ false ∷ true ∷ true ∷ [];
      capped = false ∷ false ∷ false ∷ false ∷ [];
      tied = false ∷ false ∷ false ∷ false ∷ [];
      step = Elected;
    } in
    let next : Situation = record now {
      states = Hopeful ∷ Hopeful ∷ IsElected ∷ IsElected ∷ [];
      round = 2;
    } in
    Settle (scale 9) now (0 ∷ 0 ∷ 5000000000 ∷ 9000000000 ∷ []) (1 ∷ 2 ∷ 3 ∷ 4 ∷ []) row next
