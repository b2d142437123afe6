-- Iterations worked by hand, at nine places with an omega of 1,000 units: who is elected, and who is tied.
use Rattle.std.specs.Prelude.{true, false, Some, None, [], ◌∷◌}
use Rattle.candidate_roll.specs.declared.state.State.TheVariants.{Hopeful, Elected as IsElected, Defeated}
use Rattle.meek_rule.specs.declared.step.Step.TheVariants.{Elected, Defeat}
use Rattle.fixed_place.specs.Rounding.{scale}
use Rattle.meek_rule.specs.Situation.{Situation}
use Rattle.meek_rule.specs.Row.{Row}
use Rattle.meek_rule.specs.Iteration.{Settle}
use Rattle.meek_rule.specs.WorkedKeeps.{in_round_two}

-- Two reach the quota and one seat is left: the greater vote is elected, though the lots have it earlier.
abbrev pub OverfillByVotes : Type 0
OverfillByVotes =
    let now = in_round_two 2 (IsElected ∷ Hopeful ∷ Hopeful ∷ []) (1000000000 ∷ 1000000000 ∷ 1000000000 ∷ []) 1 None in
    let row : Row = record {
      round = 2;
      iteration = 1;
      states = now.states;
      keeps = now.keeps;
      votes = 3999999997 ∷ 4000000002 ∷ 4000000001 ∷ [];
      total = 12000000000;
      quota = 4000000001;
      surplus = 0;
      elected = false ∷ true ∷ false ∷ [];
      capped = false ∷ false ∷ false ∷ [];
      tied = false ∷ false ∷ false ∷ [];
      step = Elected;
    } in
    let next : Situation = record now {
      states = IsElected ∷ IsElected ∷ Hopeful ∷ [];
      round = 3;
    } in
    Settle (scale 9) now (3999999997 ∷ 4000000002 ∷ 4000000001 ∷ []) (1 ∷ 2 ∷ 3 ∷ []) row next

-- Where somebody is elected no keep value moves, though the first has twice the quota.
abbrev pub KeepsStayAtElection : Type 0
KeepsStayAtElection =
    let now = in_round_two 3 (IsElected ∷ Hopeful ∷ Hopeful ∷ Hopeful ∷ [])
    (1000000000 ∷ 1000000000 ∷ 1000000000 ∷ 1000000000 ∷ []) 1 None in
    let row : Row = record {
      round = 2;
      iteration = 1;
      states = now.states;
      keeps = now.keeps;
      votes = 6000000000 ∷ 4000000000 ∷ 1000000000 ∷ 1000000000 ∷ [];
      total = 12000000000;
      quota = 3000000001;
      surplus = 3999999998;
      elected = false ∷ true ∷ false ∷ false ∷ [];
      capped = false ∷ false ∷ false ∷ false ∷ [];
      tied = false ∷ false ∷ false ∷ false ∷ [];
      step = Elected;
    } in
    let next : Situation = record now {
      states = IsElected ∷ IsElected ∷ Hopeful ∷ Hopeful ∷ [];
      round = 3;
    } in
    Settle (scale 9) now (6000000000 ∷ 4000000000 ∷ 1000000000 ∷ 1000000000 ∷ []) (1 ∷ 2 ∷ 3 ∷ 4 ∷ []) row next

-- Who is above the lowest hopeful vote by just the surplus is tied.
abbrev pub TieAtTheSurplus : Type 0
TieAtTheSurplus =
    let now = in_round_two 2 (IsElected ∷ Hopeful ∷ Hopeful ∷ Hopeful ∷ [])
    (1000000000 ∷ 1000000000 ∷ 1000000000 ∷ 1000000000 ∷ []) 1 None in
    let row : Row = record {
      round = 2;
      iteration = 1;
      states = now.states;
      keeps = now.keeps;
      votes = 4000000601 ∷ 2999999999 ∷ 2500000000 ∷ 2499999400 ∷ [];
      total = 12000000000;
      quota = 4000000001;
      surplus = 600;
      elected = false ∷ false ∷ false ∷ false ∷ [];
      capped = false ∷ false ∷ false ∷ false ∷ [];
      tied = false ∷ false ∷ true ∷ true ∷ [];
      step = Defeat 3;
    } in
    let next : Situation = record now {
      states = IsElected ∷ Hopeful ∷ Defeated ∷ Hopeful ∷ [];
      keeps = 1000000000 ∷ 1000000000 ∷ 0 ∷ 1000000000 ∷ [];
      round = 3;
    } in
    Settle (scale 9) now (4000000601 ∷ 2999999999 ∷ 2500000000 ∷ 2499999400 ∷ []) (3 ∷ 1 ∷ 2 ∷ 4 ∷ []) row next

-- An elected candidate is never tied, though its vote is the lowest of all and the lots have it first.
abbrev pub ElectedAreNotTied : Type 0
ElectedAreNotTied =
    let now = in_round_two 3 (IsElected ∷ IsElected ∷ Hopeful ∷ Hopeful ∷ [])
    (1000000000 ∷ 1000000000 ∷ 1000000000 ∷ 1000000000 ∷ []) 2 (Some 500000000) in
    let row : Row = record {
      round = 2;
      iteration = 2;
      states = now.states;
      keeps = now.keeps;
      votes = 500000000 ∷ 6000000000 ∷ 2500000000 ∷ 2400000000 ∷ [];
      total = 11400000000;
      quota = 2850000001;
      surplus = 799999998;
      elected = false ∷ false ∷ false ∷ false ∷ [];
      capped = false ∷ false ∷ false ∷ false ∷ [];
      tied = false ∷ false ∷ true ∷ true ∷ [];
      step = Defeat 3;
    } in
    let next : Situation = record now {
      states = IsElected ∷ IsElected ∷ Defeated ∷ Hopeful ∷ [];
      keeps = 1000000000 ∷ 1000000000 ∷ 0 ∷ 1000000000 ∷ [];
      round = 3;
      iteration = 1;
      previous = None;
    } in
    Settle (scale 9) now (500000000 ∷ 6000000000 ∷ 2500000000 ∷ 2400000000 ∷ []) (1 ∷ 3 ∷ 2 ∷ 4 ∷ []) row next
