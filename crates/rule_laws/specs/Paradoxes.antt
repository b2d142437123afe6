-- What voters may expect, and do not get: pairs of counts worked by hand.
use Rattle.std.specs.Prelude.{◌≡◌, ℕ, ◌-◌, Bool, true, false, List, [], ◌∷◌, ◌++◌, replicate, codes, length, slice_set}
use Rattle.candidate_roll.specs.Roll.{RollList}
use Rattle.candidate_roll.specs.declared.state.State.{State}
use Rattle.candidate_roll.specs.declared.state.State.TheVariants.{Hopeful, Elected as IsElected, Defeated, Withdrawn}
use Rattle.lot_order.specs.Lots.{IsOrder}
use Rattle.meek_rule.specs.declared.step.Step.TheVariants.{Elected, Defeat}
use Rattle.meek_rule.specs.Rule.{Rule}
use Rattle.meek_rule.specs.Row.{Row}
use Rattle.meek_count.specs.Worked.{opened, unmoved}
use Rattle.meek_count.specs.Rows.{IsCountUnder}

-- a whole count: the roll, the ballots, the rows and the last states
pub record WorkedCount : Type 0 where
  pub roll : RollList
  pub ballots : List (List ℕ)
  pub rows : List Row
  pub last : List State

-- By either rule and with any lots, at nine places with an omega of 1,000 units, these ballots have this count.
abbrev pub AlwaysCounts : WorkedCount → Type 0
AlwaysCounts w =
    (rule : Rule) (lots : List ℕ) → IsOrder lots → length lots ≡ length w.roll.names
    → IsCountUnder rule 9 1000 w.ballots w.roll lots w.rows w.last

abbrev pub three_for : (seats : ℕ) → RollList
three_for seats = record {
  seats = seats;
  names = codes "Ann" ∷ codes "Ben" ∷ codes "Cid" ∷ [];
  title = codes "What is not promised";
  withdrawn = false ∷ false ∷ false ∷ [];
}

-- of three candidates this one alone
abbrev pub alone : (c : ℕ) → List Bool
alone c = slice_set (false ∷ false ∷ false ∷ []) (c - 1) true

-- ONE SEAT AND TWO ROUNDS: in the first nobody reaches the quota, and the lowest of three candidates is defeated; in the second the
-- winner reaches it.
pub record TwoRounds : Type 0 where
  pub ballots : List (List ℕ)
  pub total : ℕ
  pub quota : ℕ
  pub first : List ℕ
  pub lowest : ℕ
  pub second : List ℕ
  pub surplus : ℕ
  pub winner : ℕ

-- its rows and its end
abbrev pub by_two_rounds : TwoRounds → WorkedCount
by_two_rounds t =
    let first : Row = record (opened 1000000000 t.first t.total t.quota 0) { tied = alone t.lowest; step = Defeat t.lowest } in
    let second : Row = record (unmoved first (slice_set (replicate 3 Hopeful) (t.lowest - 1) Defeated)) {
      keeps = slice_set (replicate 3 1000000000) (t.lowest - 1) 0;
      votes = t.second;
      surplus = t.surplus;
      elected = alone t.winner;
      step = Elected;
    } in
    record {
      roll = three_for 1;
      ballots = t.ballots;
      rows = first ∷ second ∷ [];
      last = slice_set (replicate 3 Defeated) (t.winner - 1) IsElected;
    }

-- MONOTONICITY. Seventeen voters elect Cid. Two of them raise him from second to first, and he is defeated: now Ben is the lowest,
-- and not Ann, and Ben's other voters prefer Ann.

abbrev pub fifteen_voters : List (List ℕ)
fifteen_voters = replicate 5 (1 ∷ 3 ∷ 2 ∷ []) ++ replicate 4 (2 ∷ 1 ∷ 3 ∷ []) ++ replicate 6 (3 ∷ 2 ∷ 1 ∷ [])

abbrev pub from_second : TwoRounds
from_second = record {
  ballots = fifteen_voters ++ replicate 2 (2 ∷ 3 ∷ 1 ∷ []);
  total = 17000000000;
  quota = 8500000001;
  first = 5000000000 ∷ 6000000000 ∷ 6000000000 ∷ [];
  lowest = 1;
  second = 0 ∷ 6000000000 ∷ 11000000000 ∷ [];
  surplus = 2499999999;
  winner = 3;
}

abbrev pub CidIsElectedFromSecond : Type 0
CidIsElectedFromSecond = AlwaysCounts (by_two_rounds from_second)

abbrev pub from_first : TwoRounds
from_first = record {
  ballots = fifteen_voters ++ replicate 2 (3 ∷ 2 ∷ 1 ∷ []);
  total = 17000000000;
  quota = 8500000001;
  first = 5000000000 ∷ 4000000000 ∷ 8000000000 ∷ [];
  lowest = 2;
  second = 9000000000 ∷ 0 ∷ 8000000000 ∷ [];
  surplus = 499999999;
  winner = 1;
}

abbrev pub CidIsDefeatedFromFirst : Type 0
CidIsDefeatedFromFirst = AlwaysCounts (by_two_rounds from_first)

-- PARTICIPATION. Nine voters elect Ann. Two more come, who prefer Ann to Cid, and Cid is elected: their Ben is no longer the lowest, and
-- Ann is.

abbrev pub nine_voters : List (List ℕ)
nine_voters = replicate 3 (1 ∷ 3 ∷ 2 ∷ []) ++ replicate 2 (2 ∷ 1 ∷ 3 ∷ []) ++ replicate 4 (3 ∷ 2 ∷ 1 ∷ [])

abbrev pub by_nine : TwoRounds
by_nine = record {
  ballots = nine_voters;
  total = 9000000000;
  quota = 4500000001;
  first = 3000000000 ∷ 2000000000 ∷ 4000000000 ∷ [];
  lowest = 2;
  second = 5000000000 ∷ 0 ∷ 4000000000 ∷ [];
  surplus = 499999999;
  winner = 1;
}

abbrev pub AnnIsElectedByNine : Type 0
AnnIsElectedByNine = AlwaysCounts (by_two_rounds by_nine)

abbrev pub by_eleven : TwoRounds
by_eleven = record {
  ballots = nine_voters ++ replicate 2 (2 ∷ 1 ∷ 3 ∷ []);
  total = 11000000000;
  quota = 5500000001;
  first = 3000000000 ∷ 4000000000 ∷ 4000000000 ∷ [];
  lowest = 1;
  second = 0 ∷ 4000000000 ∷ 7000000000 ∷ [];
  surplus = 1499999999;
  winner = 3;
}

abbrev pub CidIsElectedByEleven : Type 0
CidIsElectedByEleven = AlwaysCounts (by_two_rounds by_eleven)

-- HOUSE MONOTONICITY. Thirteen voters elect Cid to one seat. To two seats they elect Ann and Ben: with the lower quota Ann is elected at
-- first, and what she has above it elects Ben, who is the lowest where there is one seat.

abbrev pub thirteen_voters : List (List ℕ)
thirteen_voters = replicate 6 (1 ∷ 2 ∷ 3 ∷ []) ++ replicate 3 (2 ∷ 3 ∷ 1 ∷ []) ++ replicate 4 (3 ∷ 2 ∷ 1 ∷ [])

abbrev pub to_one_seat : TwoRounds
to_one_seat = record {
  ballots = thirteen_voters;
  total = 13000000000;
  quota = 6500000001;
  first = 6000000000 ∷ 3000000000 ∷ 4000000000 ∷ [];
  lowest = 2;
  second = 6000000000 ∷ 0 ∷ 7000000000 ∷ [];
  surplus = 499999999;
  winner = 3;
}

abbrev pub CidHasTheOneSeat : Type 0
CidHasTheOneSeat = AlwaysCounts (by_two_rounds to_one_seat)

abbrev pub to_two_seats : WorkedCount
to_two_seats =
    let first : Row = record (opened 1000000000 (6000000000 ∷ 3000000000 ∷ 4000000000 ∷ []) 13000000000 4333333334 1666666666) {
      elected = alone 1;
      step = Elected;
    } in
    let second : Row = unmoved first (IsElected ∷ Hopeful ∷ Hopeful ∷ []) in
    let third : Row = record second {
      iteration = 2;
      keeps = 722222223 ∷ 1000000000 ∷ 1000000000 ∷ [];
      votes = 4333333338 ∷ 4666666662 ∷ 4000000000 ∷ [];
      surplus = 333333332;
      elected = alone 2;
      step = Elected;
    } in
    record {
      roll = three_for 2;
      ballots = thirteen_voters;
      rows = first ∷ second ∷ third ∷ [];
      last = IsElected ∷ IsElected ∷ Defeated ∷ [];
    }

abbrev pub CidHasNoneOfTwoSeats : Type 0
CidHasNoneOfTwoSeats = AlwaysCounts to_two_seats

-- INDEPENDENCE OF CLONES. Seven voters, each of whom ranks Dee directly after Cid, elect Cid and Ann to two seats where Dee was
-- withdrawn. Where she runs they elect Cid and Ben: what Cid has above the quota goes to Dee and no further, so that Ann is the lowest.

abbrev pub seven_voters : List (List ℕ)
seven_voters = replicate 4 (3 ∷ 4 ∷ 1 ∷ 2 ∷ []) ++ replicate 1 (1 ∷ 2 ∷ 3 ∷ 4 ∷ []) ++ replicate 2 (2 ∷ 1 ∷ 3 ∷ 4 ∷ [])

abbrev pub four_for_two : (dee_withdrawn : Bool) → RollList
four_for_two dee_withdrawn = record {
  seats = 2;
  names = codes "Ann" ∷ codes "Ben" ∷ codes "Cid" ∷ codes "Dee" ∷ [];
  title = codes "What is not promised";
  withdrawn = false ∷ false ∷ false ∷ dee_withdrawn ∷ [];
}

-- the first iteration, by which Cid is elected, where Dee's state and keep value are these
abbrev pub seven_at_first : (dee : State) → (keep : ℕ) → Row
seven_at_first dee keep =
    record (opened 1000000000 (1000000000 ∷ 2000000000 ∷ 4000000000 ∷ 0 ∷ []) 7000000000 2333333334 1666666666) {
      states = Hopeful ∷ Hopeful ∷ Hopeful ∷ dee ∷ [];
      keeps = 1000000000 ∷ 1000000000 ∷ 1000000000 ∷ keep ∷ [];
      elected = false ∷ false ∷ true ∷ false ∷ [];
      step = Elected;
    }

abbrev pub without_dee : WorkedCount
without_dee =
    let first : Row = seven_at_first Withdrawn 0 in
    let second : Row = unmoved first (Hopeful ∷ Hopeful ∷ IsElected ∷ Withdrawn ∷ []) in
    let third : Row = record second {
      iteration = 2;
      keeps = 1000000000 ∷ 1000000000 ∷ 583333334 ∷ 0 ∷ [];
      votes = 2666666664 ∷ 2000000000 ∷ 2333333336 ∷ 0 ∷ [];
      surplus = 333333332;
      elected = true ∷ false ∷ false ∷ false ∷ [];
      step = Elected;
    } in
    record {
      roll = four_for_two true;
      ballots = seven_voters;
      rows = first ∷ second ∷ third ∷ [];
      last = IsElected ∷ Defeated ∷ IsElected ∷ Withdrawn ∷ [];
    }

abbrev pub AnnIsElectedWithoutDee : Type 0
AnnIsElectedWithoutDee = AlwaysCounts without_dee

abbrev pub with_dee : WorkedCount
with_dee =
    let first : Row = seven_at_first Hopeful 1000000000 in
    let second : Row = unmoved first (Hopeful ∷ Hopeful ∷ IsElected ∷ Hopeful ∷ []) in
    let third : Row = record second {
      iteration = 2;
      keeps = 1000000000 ∷ 1000000000 ∷ 583333334 ∷ 1000000000 ∷ [];
      votes = 1000000000 ∷ 2000000000 ∷ 2333333336 ∷ 1666666664 ∷ [];
      surplus = 2;
      tied = true ∷ false ∷ false ∷ false ∷ [];
      step = Defeat 1;
    } in
    let fourth : Row = record (unmoved third (Defeated ∷ Hopeful ∷ IsElected ∷ Hopeful ∷ [])) {
      keeps = 0 ∷ 1000000000 ∷ 583333334 ∷ 1000000000 ∷ [];
      votes = 0 ∷ 3000000000 ∷ 2333333336 ∷ 1666666664 ∷ [];
      surplus = 666666668;
      elected = false ∷ true ∷ false ∷ false ∷ [];
      step = Elected;
    } in
    record {
      roll = four_for_two false;
      ballots = seven_voters;
      rows = first ∷ second ∷ third ∷ fourth ∷ [];
      last = Defeated ∷ IsElected ∷ IsElected ∷ Defeated ∷ [];
    }

abbrev pub BenIsElectedWithDee : Type 0
BenIsElectedWithDee = AlwaysCounts with_dee
