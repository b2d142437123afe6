-- What sheets promise, worked by hand.
use Rattle.std.specs.Prelude.{◌≡◌, ℕ, ◌+◌, Bool, true, false, List, [], ◌∷◌, Some, sum, codes}
use Rattle.candidate_roll.specs.declared.state.State.{State}
use Rattle.candidate_roll.specs.declared.state.State.TheVariants.{Hopeful, Elected as IsElected}
use Rattle.meek_rule.specs.Row.{Row}
use Rattle.meek_rule.specs.declared.step.Step.{Step}
use Rattle.meek_rule.specs.declared.step.Step.TheVariants.{Elected, Iterate, Defeat}
use Rattle.sheet_text.specs.Lines.{text_of_lines}
use Rattle.sheet_reader.specs.Values.{SheetList}
use Rattle.count_promise.specs.Lines.{promise_text}
use Rattle.count_promise.specs.Owed.{promises}

-- a sheet of these iterations, in which 14 ballots take two seats
abbrev pub sheet_of : List Row → SheetList
sheet_of rows = record { title = codes "T"; seats = 2; ballots = 14; names = []; rows = rows; last = [] }

-- The sheet of these iterations promises just these lines.
abbrev pub Promises : List Row → (lines : List (List ℕ)) → Type 0
Promises rows lines = promise_text (sheet_of rows) ≡ text_of_lines lines

-- an iteration of three candidates, by what a promise looks at
abbrev pub row_of : (round : ℕ) → List State → (votes : List ℕ) → (quota surplus : ℕ) → (elected tied : List Bool) → Step → Row
row_of round states votes quota surplus elected tied step = record {
  round = round;
  iteration = 1;
  states = states;
  keeps = 0 ∷ 0 ∷ 0 ∷ [];
  votes = votes;
  total = sum votes;
  quota = quota;
  surplus = surplus;
  elected = elected;
  capped = false ∷ false ∷ false ∷ [];
  tied = tied;
  step = step;
}

abbrev pub nobody : List Bool
nobody = false ∷ false ∷ false ∷ []

abbrev pub all_hopeful : List State
all_hopeful = Hopeful ∷ Hopeful ∷ Hopeful ∷ []

abbrev pub two_elected : List State
two_elected = IsElected ∷ IsElected ∷ Hopeful ∷ []

abbrev pub NoIterations : Type 0
NoIterations =
    Promises []
    (
    codes "no lot decided anything"
    ∷ codes "nobody was defeated in an iteration"
    ∷ codes "seats lack at most 0.000000000"
    ∷ codes "quota 4.666666667 of all ballots"
    ∷ codes "proportional within 0.000000000"
    ∷ codes "Any voters who rank the same candidates, in any order, above all others who run, and are at least k quotas of 4.666666667 votes and 0.000000000 votes more, have k of these candidates elected, or all of these who run where they are fewer than k."
    ∷ []
    )

-- two of three tied, and the second defeated
abbrev pub TwoAreTied : Type 0
TwoAreTied =
    Promises
    (row_of 4 all_hopeful (3000000000 ∷ 1000000000 ∷ 1000000000 ∷ []) 4000000000 0 nobody (false ∷ true ∷ true ∷ []) (Defeat 2) ∷ [])
    (
    codes "round 4 iteration 1 defeats 2 by lot of 2 3"
    ∷ codes "greatest surplus at a defeat 0.000000000 round 4 iteration 1 candidate 2"
    ∷ codes "seats lack at most 0.000000000"
    ∷ codes "quota 1.666666667 of the ballots that rank somebody who runs"
    ∷ codes "proportional within 0.000000000"
    ∷ codes "Any voters who rank the same candidates, in any order, above all others who run, and are at least k quotas of 1.666666667 votes and 0.000000000 votes more, have k of these candidates elected, or all of these who run where they are fewer than k."
    ∷ []
    )

-- One seat for the first two, who have five votes each; the third has the quota too, and fewer votes.
abbrev pub LastSeatByLot : Type 0
LastSeatByLot =
    Promises
    (row_of 1 all_hopeful (5000000000 ∷ 5000000000 ∷ 4000000000 ∷ []) 4000000000 1000000000 (false ∷ true ∷ false ∷ []) nobody Elected ∷ [])
    (
    codes "round 1 iteration 1 elects 2 and not 1 by lot"
    ∷ codes "nobody was defeated in an iteration"
    ∷ codes "seats lack at most 0.000000000"
    ∷ codes "quota 4.666666667 of the ballots that rank somebody who runs"
    ∷ codes "proportional within 0.000000000"
    ∷ codes "Any voters who rank the same candidates, in any order, above all others who run, and are at least k quotas of 4.666666667 votes and 0.000000000 votes more, have k of these candidates elected, or all of these who run where they are fewer than k."
    ∷ []
    )

-- Whoever has the quota and fewer votes than the elected is left out by no lot.
abbrev pub LastSeatByVotes : Type 0
LastSeatByVotes =
    Promises
    (row_of 1 all_hopeful (4999999999 ∷ 5000000000 ∷ 0 ∷ []) 4000000000 1000000000 (false ∷ true ∷ false ∷ []) nobody Elected ∷ [])
    (
    codes "no lot decided anything"
    ∷ codes "nobody was defeated in an iteration"
    ∷ codes "seats lack at most 0.000000000"
    ∷ codes "quota 3.333333334 of the ballots that rank somebody who runs"
    ∷ codes "proportional within 0.000000000"
    ∷ codes "Any voters who rank the same candidates, in any order, above all others who run, and are at least k quotas of 3.333333334 votes and 0.000000000 votes more, have k of these candidates elected, or all of these who run where they are fewer than k."
    ∷ []
    )

-- A defeat with three and a half votes not passed on, while the second lacks half a vote of four.
abbrev pub GreatSurplus : Type 0
GreatSurplus =
    Promises
    (row_of 2 two_elected (8000000000 ∷ 3500000000 ∷ 1000000000 ∷ []) 4000000000 3500000000 nobody (false ∷ false ∷ true ∷ []) (Defeat 3) ∷ [])
    (
    codes "no lot decided anything"
    ∷ codes "greatest surplus at a defeat 3.500000000 round 2 iteration 1 candidate 3"
    ∷ codes "seats lack at most 0.500000000"
    ∷ codes "quota 4.166666667 of the ballots that rank somebody who runs"
    ∷ codes "not promised: round 2 iteration 1 defeats 3 while 3.500000000 votes of surplus are not passed on"
    ∷ codes "So voters who rank the same candidates, in any order, above all others who run, may have fewer of these elected than they have quotas of 4.166666667 votes."
    ∷ []
    )

-- A vote less a unit is no great surplus. What is lacked counts besides, but not in a transfer; of equal surpluses the first is named.
abbrev pub LittleSurplus : Type 0
LittleSurplus =
    Promises
    (
    row_of 2 two_elected (8000000000 ∷ 3000000000 ∷ 1000000000 ∷ []) 4000000000 3000000000 nobody nobody Iterate
    ∷ row_of 3 two_elected (5499999999 ∷ 3500000000 ∷ 1000000000 ∷ []) 4000000000 999999999 nobody (false ∷ false ∷ true ∷ []) (Defeat 3)
    ∷ row_of 4 two_elected (5499999999 ∷ 3500000000 ∷ 1000000000 ∷ []) 4000000000 999999999 nobody (false ∷ false ∷ true ∷ []) (Defeat 3)
    ∷ []
    )
    (
    codes "no lot decided anything"
    ∷ codes "greatest surplus at a defeat 0.999999999 round 3 iteration 1 candidate 3"
    ∷ codes "seats lack at most 0.500000000"
    ∷ codes "quota 4.000000001 of the ballots that rank somebody who runs"
    ∷ codes "proportional within 1.499999999"
    ∷ codes "Any voters who rank the same candidates, in any order, above all others who run, and are at least k quotas of 4.000000001 votes and 1.499999999 votes more, have k of these candidates elected, or all of these who run where they are fewer than k."
    ∷ []
    )

-- a defeat of the third while the first has so many units more than the quota
abbrev pub third_defeated : (round surplus : ℕ) → Row
third_defeated round surplus =
    row_of round two_elected ((4000000000 + surplus) ∷ 4000000000 ∷ 1000000000 ∷ []) 4000000000 surplus nobody
    (false ∷ false ∷ true ∷ []) (Defeat 3)

-- Of three defeats the second has the greatest surplus: just one vote, which is a great one.
abbrev pub SecondIsGreatest : Type 0
SecondIsGreatest =
    Promises
    (third_defeated 2 300000000 ∷ third_defeated 3 1000000000 ∷ third_defeated 4 200000000 ∷ [])
    (
    codes "no lot decided anything"
    ∷ codes "greatest surplus at a defeat 1.000000000 round 3 iteration 1 candidate 3"
    ∷ codes "seats lack at most 0.000000000"
    ∷ codes "quota 3.100000001 of the ballots that rank somebody who runs"
    ∷ codes "not promised: round 3 iteration 1 defeats 3 while 1.000000000 votes of surplus are not passed on"
    ∷ codes "So voters who rank the same candidates, in any order, above all others who run, may have fewer of these elected than they have quotas of 3.100000001 votes."
    ∷ []
    )

-- Of two great surpluses the second is greater, and it is the first for which nothing is promised.
abbrev pub FirstIsNotPromised : Type 0
FirstIsNotPromised =
    Promises
    (third_defeated 2 1200000000 ∷ third_defeated 3 2500000000 ∷ [])
    (
    codes "no lot decided anything"
    ∷ codes "greatest surplus at a defeat 2.500000000 round 3 iteration 1 candidate 3"
    ∷ codes "seats lack at most 0.000000000"
    ∷ codes "quota 3.400000001 of the ballots that rank somebody who runs"
    ∷ codes "not promised: round 2 iteration 1 defeats 3 while 1.200000000 votes of surplus are not passed on"
    ∷ codes "So voters who rank the same candidates, in any order, above all others who run, may have fewer of these elected than they have quotas of 3.400000001 votes."
    ∷ []
    )

-- A winner lacks half a vote of four, and nobody is defeated.
abbrev pub WinnerBelowTheQuota : Type 0
WinnerBelowTheQuota =
    Promises
    (row_of 1 (IsElected ∷ Hopeful ∷ Hopeful ∷ []) (4200000000 ∷ 3500000000 ∷ 1000000000 ∷ []) 4000000000 200000000 (false ∷ true ∷ false ∷ []) nobody Elected ∷ [])
    (
    codes "no lot decided anything"
    ∷ codes "nobody was defeated in an iteration"
    ∷ codes "seats lack at most 0.500000000"
    ∷ codes "quota 2.900000001 of the ballots that rank somebody who runs"
    ∷ codes "proportional within 0.500000000"
    ∷ codes "Any voters who rank the same candidates, in any order, above all others who run, and are at least k quotas of 2.900000001 votes and 0.500000000 votes more, have k of these candidates elected, or all of these who run where they are fewer than k."
    ∷ []
    )

-- Lots of both kinds in one iteration: no count has it, but a sheet may have the form.
abbrev pub DefeatAndSeatByLot : Type 0
DefeatAndSeatByLot =
    Promises
    (row_of 1 all_hopeful (5000000000 ∷ 5000000000 ∷ 4000000000 ∷ []) 4000000000 500000000 (false ∷ true ∷ false ∷ []) (true ∷ false ∷ true ∷ []) (Defeat 3) ∷ [])
    (
    codes "round 1 iteration 1 defeats 3 by lot of 1 3"
    ∷ codes "round 1 iteration 1 elects 2 and not 1 by lot"
    ∷ codes "greatest surplus at a defeat 0.500000000 round 1 iteration 1 candidate 3"
    ∷ codes "seats lack at most 0.000000000"
    ∷ codes "quota 4.666666667 of the ballots that rank somebody who runs"
    ∷ codes "proportional within 0.500000000"
    ∷ codes "Any voters who rank the same candidates, in any order, above all others who run, and are at least k quotas of 4.666666667 votes and 0.500000000 votes more, have k of these candidates elected, or all of these who run where they are fewer than k."
    ∷ []
    )

-- A sheet may have 2^30 bytes.
abbrev pub LongestSheet : Type 0
LongestSheet = promises.limit tt ≡ Some 1073741824
