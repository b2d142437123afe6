-- Whole counts worked by hand.
use Rattle.std.specs.Prelude.{ℕ, Bool, true, false, List, [], ◌∷◌, ◌++◌, ◌+◌, length, replicate, codes}
use Rattle.candidate_roll.specs.Roll.{RollList}
use Rattle.candidate_roll.specs.declared.state.State.{State}
use Rattle.candidate_roll.specs.declared.state.State.TheVariants.{Hopeful, Elected as IsElected, Defeated, Withdrawn}
use Rattle.meek_rule.specs.declared.step.Step.TheVariants.{Elected, Iterate, Defeat}
use Rattle.meek_rule.specs.Row.{Row}
use Rattle.meek_count.specs.Rows.{IsCount}

-- The first iteration where all candidates run and `s` units are one vote, before anybody is marked.
abbrev pub opened : (s : ℕ) → (votes : List ℕ) → (total quota surplus : ℕ) → Row
opened s votes total quota surplus = record {
  round = 1;
  iteration = 1;
  states = replicate (length votes) Hopeful;
  keeps = replicate (length votes) s;
  votes = votes;
  total = total;
  quota = quota;
  surplus = surplus;
  elected = replicate (length votes) false;
  capped = replicate (length votes) false;
  tied = replicate (length votes) false;
  step = Iterate;
}

-- The row after one by which the states are these: nothing has moved yet, and nobody is marked.
abbrev pub unmoved : Row → List State → Row
unmoved row states = record row {
  round = row.round + 1;
  iteration = 1;
  states = states;
  elected = replicate (length states) false;
  tied = replicate (length states) false;
  step = Iterate;
}

-- THREE CANDIDATES FOR TWO SEATS: the first reaches the quota, and in the third iteration of round 2 the second does.

abbrev pub ten_four_three : List (List ℕ)
ten_four_three = replicate 10 (1 ∷ []) ++ replicate 4 (2 ∷ []) ++ replicate 3 (3 ∷ [])

abbrev pub three_for_two : RollList
three_for_two = record {
  seats = 2;
  names = codes "A" ∷ codes "B" ∷ codes "C" ∷ [];
  title = codes "T";
  withdrawn = false ∷ false ∷ false ∷ [];
}

abbrev pub first_is_elected : List State
first_is_elected = IsElected ∷ Hopeful ∷ Hopeful ∷ []

-- what moves from one iteration to the next
abbrev pub moved : Row → (keeps votes : List ℕ) → (total quota surplus : ℕ) → Row
moved row keeps votes total quota surplus = record row {
  iteration = row.iteration + 1;
  keeps = keeps;
  votes = votes;
  total = total;
  quota = quota;
  surplus = surplus;
}

abbrev pub three_iterations : List Row
three_iterations =
    let first : Row = record (opened 1000000000 (10000000000 ∷ 4000000000 ∷ 3000000000 ∷ []) 17000000000 5666666667 4333333333) {
      elected = true ∷ false ∷ false ∷ [];
      step = Elected;
    } in
    let second : Row = unmoved first first_is_elected in
    let third : Row =
    moved second (566666667 ∷ 1000000000 ∷ 1000000000 ∷ []) (5666666670 ∷ 4000000000 ∷ 3000000000 ∷ [])
    12666666670 4222222224 1444444446 in
    let fourth : Row =
    moved third (422222223 ∷ 1000000000 ∷ 1000000000 ∷ []) (4222222230 ∷ 4000000000 ∷ 3000000000 ∷ [])
    11222222230 3740740744 740740742 in
    first ∷ second ∷ third ∷ record fourth { elected = false ∷ true ∷ false ∷ []; step = Elected } ∷ []

abbrev pub ThreeIterations : Type 0
ThreeIterations =
    IsCount 9 1000 ten_four_three three_for_two (1 ∷ 2 ∷ 3 ∷ []) three_iterations (IsElected ∷ IsElected ∷ Defeated ∷ [])

-- The same ballots at six places, with an omega of one unit.
abbrev pub at_six_places : List Row
at_six_places =
    let first : Row = record (opened 1000000 (10000000 ∷ 4000000 ∷ 3000000 ∷ []) 17000000 5666667 4333333) {
      elected = true ∷ false ∷ false ∷ [];
      step = Elected;
    } in
    let second : Row = unmoved first first_is_elected in
    let third : Row =
    moved second (566667 ∷ 1000000 ∷ 1000000 ∷ []) (5666670 ∷ 4000000 ∷ 3000000 ∷ []) 12666670 4222224 1444446 in
    let fourth : Row =
    moved third (422223 ∷ 1000000 ∷ 1000000 ∷ []) (4222230 ∷ 4000000 ∷ 3000000 ∷ []) 11222230 3740744 740742 in
    first ∷ second ∷ third ∷ record fourth { elected = false ∷ true ∷ false ∷ []; step = Elected } ∷ []

abbrev pub AtSixPlaces : Type 0
AtSixPlaces =
    IsCount 6 1 ten_four_three three_for_two (1 ∷ 2 ∷ 3 ∷ []) at_six_places (IsElected ∷ IsElected ∷ Defeated ∷ [])

-- A WITHDRAWN CANDIDATE, A TRANSFER AND A DEFEAT, with two seats: after the transfer the fourth misses the quota by one
-- unit, and is above the third by more than the surplus, so the third alone is tied.

abbrev pub sample_ballots : List (List ℕ)
sample_ballots =
    replicate 3 (1 ∷ 3 ∷ 4 ∷ []) ++ replicate 4 (1 ∷ 3 ∷ 2 ∷ []) ++ replicate 2 (4 ∷ 1 ∷ 3 ∷ [])
    ++ replicate 1 (2 ∷ []) ++ replicate 2 (4 ∷ 3 ∷ 1 ∷ []) ++ replicate 1 (3 ∷ 4 ∷ 2 ∷ [])

abbrev pub sample_roll : RollList
sample_roll = record {
  seats = 2;
  names = codes "Ann" ∷ codes "Ben" ∷ codes "Cid" ∷ codes "Dee" ∷ [];
  title = codes "Sample";
  withdrawn = false ∷ true ∷ false ∷ false ∷ [];
}

abbrev pub none_of_four : List Bool
none_of_four = false ∷ false ∷ false ∷ false ∷ []

abbrev pub sample_rows : List Row
sample_rows =
    let first : Row = record (opened 1000000000 (7000000000 ∷ 0 ∷ 1000000000 ∷ 4000000000 ∷ []) 12000000000 4000000001 2999999999) {
      states = Hopeful ∷ Withdrawn ∷ Hopeful ∷ Hopeful ∷ [];
      keeps = 1000000000 ∷ 0 ∷ 1000000000 ∷ 1000000000 ∷ [];
      elected = true ∷ false ∷ false ∷ false ∷ [];
      step = Elected;
    } in
    let second : Row = unmoved first (IsElected ∷ Withdrawn ∷ Hopeful ∷ Hopeful ∷ []) in
    let third : Row =
    moved second (571428572 ∷ 0 ∷ 1000000000 ∷ 1000000000 ∷ []) (4000000004 ∷ 0 ∷ 3999999996 ∷ 4000000000 ∷ [])
    12000000000 4000000001 3 in
    first ∷ second ∷ record third { tied = false ∷ false ∷ true ∷ false ∷ []; step = Defeat 3 } ∷ []

abbrev pub SampleElection : Type 0
SampleElection =
    IsCount 9 1000 sample_ballots sample_roll (1 ∷ 2 ∷ 3 ∷ 4 ∷ []) sample_rows
    (IsElected ∷ Withdrawn ∷ Defeated ∷ IsElected ∷ [])
