-- Iterations worked by hand, at nine places with an omega of 1,000 units.
use Rattle.std.specs.Prelude.{true, false, Some, None, [], ◌∷◌, ◌≡◌, replicate}
use Rattle.candidate_roll.specs.declared.state.State.TheVariants.{Hopeful, Elected as IsElected, Defeated}
use Rattle.meek_rule.specs.declared.step.Step.TheVariants.{Elected, Iterate, Defeat}
use Rattle.fixed_place.specs.Rounding.{scale}
use Rattle.meek_rule.specs.Situation.{Situation}
use Rattle.meek_rule.specs.Row.{Row}
use Rattle.meek_rule.specs.Weights.{votes}
use Rattle.meek_rule.specs.Iteration.{Settle}

-- Of two elected the one below the quota is capped.
abbrev pub CappedKeep : Type 0
CappedKeep =
    let now : Situation = record {
      seats = 3;
      states = IsElected ∷ IsElected ∷ Hopeful ∷ Hopeful ∷ [];
      keeps = 1000000000 ∷ 1000000000 ∷ 1000000000 ∷ 1000000000 ∷ [];
      round = 2;
      iteration = 1;
      previous = None;
      omega = 1000;
    } in
    let row : Row = record {
      round = 2;
      iteration = 1;
      states = IsElected ∷ IsElected ∷ Hopeful ∷ Hopeful ∷ [];
      keeps = 1000000000 ∷ 1000000000 ∷ 1000000000 ∷ 1000000000 ∷ [];
      votes = 3999999999 ∷ 6000000000 ∷ 3500000000 ∷ 2500000001 ∷ [];
      total = 16000000000;
      quota = 4000000001;
      surplus = 1999999997;
      elected = false ∷ false ∷ false ∷ false ∷ [];
      capped = true ∷ false ∷ false ∷ false ∷ [];
      tied = false ∷ false ∷ false ∷ false ∷ [];
      step = Iterate;
    } in
    let next : Situation = record {
      seats = 3;
      states = IsElected ∷ IsElected ∷ Hopeful ∷ Hopeful ∷ [];
      keeps = 1000000000 ∷ 666666667 ∷ 1000000000 ∷ 1000000000 ∷ [];
      round = 2;
      iteration = 2;
      previous = Some 1999999997;
      omega = 1000;
    } in
    Settle (scale 9) now (3999999999 ∷ 6000000000 ∷ 3500000000 ∷ 2500000001 ∷ []) (1 ∷ 2 ∷ 3 ∷ 4 ∷ []) row next

-- Two reach the quota and one seat is left: of equal votes the later in the lots is elected.
abbrev pub Overfill : Type 0
Overfill =
    let now : Situation = record {
      seats = 2;
      states = IsElected ∷ Hopeful ∷ Hopeful ∷ [];
      keeps = 1000000000 ∷ 1000000000 ∷ 1000000000 ∷ [];
      round = 2;
      iteration = 1;
      previous = None;
      omega = 1000;
    } in
    let row : Row = record {
      round = 2;
      iteration = 1;
      states = IsElected ∷ Hopeful ∷ Hopeful ∷ [];
      keeps = 1000000000 ∷ 1000000000 ∷ 1000000000 ∷ [];
      votes = 3999999998 ∷ 4000000001 ∷ 4000000001 ∷ [];
      total = 12000000000;
      quota = 4000000001;
      surplus = 0;
      elected = false ∷ false ∷ true ∷ [];
      capped = false ∷ false ∷ false ∷ [];
      tied = false ∷ false ∷ false ∷ [];
      step = Elected;
    } in
    let next : Situation = record {
      seats = 2;
      states = IsElected ∷ Hopeful ∷ IsElected ∷ [];
      keeps = 1000000000 ∷ 1000000000 ∷ 1000000000 ∷ [];
      round = 3;
      iteration = 1;
      previous = None;
      omega = 1000;
    } in
    Settle (scale 9) now (3999999998 ∷ 4000000001 ∷ 4000000001 ∷ []) (1 ∷ 2 ∷ 3 ∷ []) row next

-- A surplus of omega is transferred.
abbrev pub SurplusOfOmega : Type 0
SurplusOfOmega =
    let now : Situation = record {
      seats = 2;
      states = IsElected ∷ Hopeful ∷ Hopeful ∷ [];
      keeps = 1000000000 ∷ 1000000000 ∷ 1000000000 ∷ [];
      round = 2;
      iteration = 1;
      previous = None;
      omega = 1000;
    } in
    let row : Row = record {
      round = 2;
      iteration = 1;
      states = IsElected ∷ Hopeful ∷ Hopeful ∷ [];
      keeps = 1000000000 ∷ 1000000000 ∷ 1000000000 ∷ [];
      votes = 4000001001 ∷ 4000000000 ∷ 3999998999 ∷ [];
      total = 12000000000;
      quota = 4000000001;
      surplus = 1000;
      elected = false ∷ false ∷ false ∷ [];
      capped = false ∷ false ∷ false ∷ [];
      tied = false ∷ false ∷ false ∷ [];
      step = Iterate;
    } in
    let next : Situation = record {
      seats = 2;
      states = IsElected ∷ Hopeful ∷ Hopeful ∷ [];
      keeps = 999999751 ∷ 1000000000 ∷ 1000000000 ∷ [];
      round = 2;
      iteration = 2;
      previous = Some 1000;
      omega = 1000;
    } in
    Settle (scale 9) now (4000001001 ∷ 4000000000 ∷ 3999998999 ∷ []) (1 ∷ 2 ∷ 3 ∷ []) row next

-- A surplus below omega defeats.
abbrev pub SurplusBelowOmega : Type 0
SurplusBelowOmega =
    let now : Situation = record {
      seats = 2;
      states = IsElected ∷ Hopeful ∷ Hopeful ∷ [];
      keeps = 1000000000 ∷ 1000000000 ∷ 1000000000 ∷ [];
      round = 2;
      iteration = 1;
      previous = None;
      omega = 1000;
    } in
    let row : Row = record {
      round = 2;
      iteration = 1;
      states = IsElected ∷ Hopeful ∷ Hopeful ∷ [];
      keeps = 1000000000 ∷ 1000000000 ∷ 1000000000 ∷ [];
      votes = 4000001000 ∷ 4000000000 ∷ 3999999000 ∷ [];
      total = 12000000000;
      quota = 4000000001;
      surplus = 999;
      elected = false ∷ false ∷ false ∷ [];
      capped = false ∷ false ∷ false ∷ [];
      tied = false ∷ false ∷ true ∷ [];
      step = Defeat 3;
    } in
    let next : Situation = record {
      seats = 2;
      states = IsElected ∷ Hopeful ∷ Defeated ∷ [];
      keeps = 1000000000 ∷ 1000000000 ∷ 0 ∷ [];
      round = 3;
      iteration = 1;
      previous = None;
      omega = 1000;
    } in
    Settle (scale 9) now (4000001000 ∷ 4000000000 ∷ 3999999000 ∷ []) (1 ∷ 2 ∷ 3 ∷ []) row next

-- A surplus that is not below the one before defeats.
abbrev pub SurplusNotFalling : Type 0
SurplusNotFalling =
    let now : Situation = record {
      seats = 2;
      states = IsElected ∷ Hopeful ∷ Hopeful ∷ [];
      keeps = 1000000000 ∷ 1000000000 ∷ 1000000000 ∷ [];
      round = 2;
      iteration = 2;
      previous = Some 1000;
      omega = 1000;
    } in
    let row : Row = record {
      round = 2;
      iteration = 2;
      states = IsElected ∷ Hopeful ∷ Hopeful ∷ [];
      keeps = 1000000000 ∷ 1000000000 ∷ 1000000000 ∷ [];
      votes = 4000001001 ∷ 4000000000 ∷ 3999998999 ∷ [];
      total = 12000000000;
      quota = 4000000001;
      surplus = 1000;
      elected = false ∷ false ∷ false ∷ [];
      capped = false ∷ false ∷ false ∷ [];
      tied = false ∷ false ∷ true ∷ [];
      step = Defeat 3;
    } in
    let next : Situation = record {
      seats = 2;
      states = IsElected ∷ Hopeful ∷ Defeated ∷ [];
      keeps = 1000000000 ∷ 1000000000 ∷ 0 ∷ [];
      round = 3;
      iteration = 1;
      previous = None;
      omega = 1000;
    } in
    Settle (scale 9) now (4000001001 ∷ 4000000000 ∷ 3999998999 ∷ []) (1 ∷ 2 ∷ 3 ∷ []) row next

-- A surplus below the one before is transferred.
abbrev pub SurplusFalling : Type 0
SurplusFalling =
    let now : Situation = record {
      seats = 2;
      states = IsElected ∷ Hopeful ∷ Hopeful ∷ [];
      keeps = 1000000000 ∷ 1000000000 ∷ 1000000000 ∷ [];
      round = 2;
      iteration = 2;
      previous = Some 1001;
      omega = 1000;
    } in
    let row : Row = record {
      round = 2;
      iteration = 2;
      states = IsElected ∷ Hopeful ∷ Hopeful ∷ [];
      keeps = 1000000000 ∷ 1000000000 ∷ 1000000000 ∷ [];
      votes = 4000001001 ∷ 4000000000 ∷ 3999998999 ∷ [];
      total = 12000000000;
      quota = 4000000001;
      surplus = 1000;
      elected = false ∷ false ∷ false ∷ [];
      capped = false ∷ false ∷ false ∷ [];
      tied = false ∷ false ∷ false ∷ [];
      step = Iterate;
    } in
    let next : Situation = record {
      seats = 2;
      states = IsElected ∷ Hopeful ∷ Hopeful ∷ [];
      keeps = 999999751 ∷ 1000000000 ∷ 1000000000 ∷ [];
      round = 2;
      iteration = 3;
      previous = Some 1000;
      omega = 1000;
    } in
    Settle (scale 9) now (4000001001 ∷ 4000000000 ∷ 3999998999 ∷ []) (1 ∷ 2 ∷ 3 ∷ []) row next

-- A candidate above the lowest by less than the surplus is tied, and the lots defeat it.
abbrev pub TieWithinSurplus : Type 0
TieWithinSurplus =
    let now : Situation = record {
      seats = 2;
      states = IsElected ∷ Hopeful ∷ Hopeful ∷ Hopeful ∷ [];
      keeps = 1000000000 ∷ 1000000000 ∷ 1000000000 ∷ 1000000000 ∷ [];
      round = 2;
      iteration = 1;
      previous = None;
      omega = 1000;
    } in
    let row : Row = record {
      round = 2;
      iteration = 1;
      states = IsElected ∷ Hopeful ∷ Hopeful ∷ Hopeful ∷ [];
      keeps = 1000000000 ∷ 1000000000 ∷ 1000000000 ∷ 1000000000 ∷ [];
      votes = 4000000601 ∷ 3000000000 ∷ 2499999999 ∷ 2499999400 ∷ [];
      total = 12000000000;
      quota = 4000000001;
      surplus = 600;
      elected = false ∷ false ∷ false ∷ false ∷ [];
      capped = false ∷ false ∷ false ∷ false ∷ [];
      tied = false ∷ false ∷ true ∷ true ∷ [];
      step = Defeat 3;
    } in
    let next : Situation = record {
      seats = 2;
      states = IsElected ∷ Hopeful ∷ Defeated ∷ Hopeful ∷ [];
      keeps = 1000000000 ∷ 1000000000 ∷ 0 ∷ 1000000000 ∷ [];
      round = 3;
      iteration = 1;
      previous = None;
      omega = 1000;
    } in
    Settle (scale 9) now (4000000601 ∷ 3000000000 ∷ 2499999999 ∷ 2499999400 ∷ []) (3 ∷ 1 ∷ 2 ∷ 4 ∷ []) row next

-- Three ballots of candidates 1 and 2 in this order: 1 keeps its part of each ballot, 2 its part of what is left of each.
abbrev pub ThreeBallots : Type 0
ThreeBallots =
    votes (scale 9) (571428572 ∷ 666666667 ∷ []) (replicate 3 (1 ∷ 2 ∷ [])) 2 ≡ 1714285716 ∷ 857142858 ∷ []
