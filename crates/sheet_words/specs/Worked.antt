-- Decisions of elections in sentences, written by hand from their sheets.
use Rattle.std.specs.Prelude.{◌≡◌, ℕ, ◌+◌, ◌||◌, nat_eq, Bool, false, List, [], ◌∷◌, codes, length, replicate}
use Rattle.candidate_roll.specs.declared.state.State.{State}
use Rattle.candidate_roll.specs.declared.state.State.TheVariants.{Hopeful, Elected as IsElected, Defeated, Withdrawn}
use Rattle.meek_rule.specs.Places.{each_place}
use Rattle.meek_rule.specs.Row.{Row}
use Rattle.meek_rule.specs.declared.step.Step.{Step}
use Rattle.meek_rule.specs.declared.step.Step.TheVariants.{Elected, Iterate, Defeat}
use Rattle.sheet_reader.specs.Values.{SheetList}
use Rattle.sheet_words.specs.Lines.{decision_lines}

-- an iteration that elects or goes on; its keep values are said by no sentence
abbrev pub row_of : (round iteration : ℕ) → List State → (votes : List ℕ) → (total quota surplus : ℕ) → (elected : List Bool) → Step → Row
row_of round iteration states votes total quota surplus elected step = record {
  round = round;
  iteration = iteration;
  states = states;
  keeps = replicate (length states) 1000000000;
  votes = votes;
  total = total;
  quota = quota;
  surplus = surplus;
  elected = elected;
  capped = replicate (length states) false;
  tied = replicate (length states) false;
  step = step;
}

-- an iteration that defeats
abbrev pub defeat_row : (round iteration : ℕ) → List State → (votes : List ℕ) → (total quota surplus : ℕ) → (tied : List Bool) → (c : ℕ) → Row
defeat_row round iteration states votes total quota surplus tied c =
    record (row_of round iteration states votes total quota surplus (replicate (length states) false) (Defeat c)) { tied = tied }

-- nobody of n is marked, or one alone
abbrev pub nobody : (n : ℕ) → List Bool
nobody n = replicate n false

abbrev pub only : (c n : ℕ) → List Bool
only c n = each_place n (λ p. nat_eq (p + 1) c)

-- two of n
abbrev pub two_of : (c d n : ℕ) → List Bool
two_of c d n = each_place n (λ p. nat_eq (p + 1) c || nat_eq (p + 1) d)

-- two candidates with a ballot each and one seat; candidate 2 is first in the lots
abbrev pub tie_sheet : SheetList
tie_sheet = record {
  title = codes "A tie";
  seats = 1;
  ballots = 2;
  names = codes "Ann Archer" ∷ codes "Ben Baker" ∷ [];
  rows = defeat_row 1 1 (Hopeful ∷ Hopeful ∷ []) (1000000000 ∷ 1000000000 ∷ []) 2000000000 1000000001 0 (two_of 1 2 2) 2 ∷ [];
  last = IsElected ∷ Defeated ∷ [];
}

abbrev pub ATie : Type 0
ATie =
    decision_lines 9 tie_sheet
    ≡ codes "Round 1, iteration 1: Ann Archer (1) with 1.000000000 votes and Ben Baker (2) with 1.000000000 votes are tied: their votes are no further apart than the surplus of 0.000000000."
    ∷ codes "Round 1, iteration 1: The lots decide: Ben Baker (2) stands first of them in the lots and is defeated."
    ∷ codes "End: No more candidates are left than seats."
    ∷ codes "End: Ann Archer (1) is elected: there is a seat for each who remains."
    ∷ codes "Result"
    ∷ codes "Ann Archer (1): elected"
    ∷ codes "Ben Baker (2): defeated"
    ∷ []

-- in the last iteration two reach the quota with equal votes, and one seat is left
abbrev pub winners_sheet : SheetList
winners_sheet = record {
  title = codes "More winners than seats";
  seats = 3;
  ballots = 44;
  names = codes "Ann Archer" ∷ codes "Ben Baker" ∷ codes "Cid Carter" ∷ codes "Dee Draper" ∷ codes "Eve Eaton" ∷ [];
  rows =
      row_of 1 1 (Hopeful ∷ Hopeful ∷ Hopeful ∷ Hopeful ∷ Hopeful ∷ [])
      (1000000000 ∷ 1000000000 ∷ 0 ∷ 4000000000 ∷ 38000000000 ∷ []) 44000000000 11000000001 26999999999 (only 5 5) Elected
      ∷ row_of 2 1 (Hopeful ∷ Hopeful ∷ Hopeful ∷ Hopeful ∷ IsElected ∷ [])
      (1000000000 ∷ 1000000000 ∷ 0 ∷ 4000000000 ∷ 38000000000 ∷ []) 44000000000 11000000001 26999999999 (nobody 5) Iterate
      ∷ row_of 2 2 (Hopeful ∷ Hopeful ∷ Hopeful ∷ Hopeful ∷ IsElected ∷ [])
      (1000000000 ∷ 1000000000 ∷ 26999999970 ∷ 4000000000 ∷ 11000000030 ∷ []) 44000000000 11000000001 15999999998 (only 3 5) Elected
      ∷ row_of 3 1 (Hopeful ∷ Hopeful ∷ IsElected ∷ Hopeful ∷ IsElected ∷ [])
      (1000000000 ∷ 1000000000 ∷ 26999999970 ∷ 4000000000 ∷ 11000000030 ∷ []) 44000000000 11000000001 15999999998 (nobody 5) Iterate
      ∷ defeat_row 3 2 (Hopeful ∷ Hopeful ∷ IsElected ∷ Hopeful ∷ IsElected ∷ [])
      (8999999970 ∷ 8999999970 ∷ 11000000030 ∷ 4000000000 ∷ 11000000030 ∷ []) 44000000000 11000000001 58 (only 4 5) 4
      ∷ row_of 4 1 (Hopeful ∷ Hopeful ∷ IsElected ∷ Defeated ∷ IsElected ∷ [])
      (10421052600 ∷ 10421052600 ∷ 11000000030 ∷ 0 ∷ 12157894770 ∷ []) 44000000000 11000000001 1157894798 (nobody 5) Iterate
      ∷ row_of 4 2 (Hopeful ∷ Hopeful ∷ IsElected ∷ Defeated ∷ IsElected ∷ [])
      (10786596106 ∷ 10786596106 ∷ 11426807784 ∷ 0 ∷ 11000000004 ∷ []) 44000000000 11000000001 426807786 (nobody 5) Iterate
      ∷ row_of 4 3 (Hopeful ∷ Hopeful ∷ IsElected ∷ Defeated ∷ IsElected ∷ [])
      (11000000002 ∷ 11000000002 ∷ 10999999992 ∷ 0 ∷ 11000000004 ∷ []) 44000000000 11000000001 0 (only 2 5) Elected
      ∷ [];
  last = Defeated ∷ IsElected ∷ IsElected ∷ Defeated ∷ IsElected ∷ [];
}

abbrev pub MoreWinnersThanSeats : Type 0
MoreWinnersThanSeats =
    decision_lines 9 winners_sheet
    ≡ codes "Round 1, iteration 1: Eve Eaton (5) with 38.000000000 votes reaches the quota of 11.000000001 and is elected."
    ∷ codes "Round 2, iteration 2: Cid Carter (3) with 26.999999970 votes reaches the quota of 11.000000001 and is elected."
    ∷ codes "Round 3, iteration 2: Dee Draper (4) has the fewest votes, 4.000000000, and is defeated."
    ∷ codes "Round 4, iteration 3: Ann Archer (1) with 11.000000002 votes and Ben Baker (2) with 11.000000002 votes reach the quota of 11.000000001."
    ∷ codes "Round 4, iteration 3: Seats left for them: 1. Ben Baker (2) with 11.000000002 votes is elected: a greater vote comes first, and of equal votes the later in the lots."
    ∷ codes "End: All seats are taken."
    ∷ codes "End: Ann Archer (1) is defeated: no seat is left."
    ∷ codes "Result"
    ∷ codes "Ann Archer (1): defeated"
    ∷ codes "Ben Baker (2): elected"
    ∷ codes "Cid Carter (3): elected"
    ∷ codes "Dee Draper (4): defeated"
    ∷ codes "Eve Eaton (5): elected"
    ∷ []

-- seventeen ballots for two seats, and a quota that falls
abbrev pub transfer_sheet : SheetList
transfer_sheet = record {
  title = codes "A transfer";
  seats = 2;
  ballots = 17;
  names = codes "Ann Archer" ∷ codes "Ben Baker" ∷ codes "Cid Carter" ∷ [];
  rows =
      row_of 1 1 (Hopeful ∷ Hopeful ∷ Hopeful ∷ []) (10000000000 ∷ 4000000000 ∷ 3000000000 ∷ [])
      17000000000 5666666667 4333333333 (only 1 3) Elected
      ∷ row_of 2 1 (IsElected ∷ Hopeful ∷ Hopeful ∷ []) (10000000000 ∷ 4000000000 ∷ 3000000000 ∷ [])
      17000000000 5666666667 4333333333 (nobody 3) Iterate
      ∷ row_of 2 2 (IsElected ∷ Hopeful ∷ Hopeful ∷ []) (5666666670 ∷ 4000000000 ∷ 3000000000 ∷ [])
      12666666670 4222222224 1444444446 (nobody 3) Iterate
      ∷ row_of 2 3 (IsElected ∷ Hopeful ∷ Hopeful ∷ []) (4222222230 ∷ 4000000000 ∷ 3000000000 ∷ [])
      11222222230 3740740744 740740742 (only 2 3) Elected
      ∷ [];
  last = IsElected ∷ IsElected ∷ Defeated ∷ [];
}

abbrev pub ATransfer : Type 0
ATransfer =
    decision_lines 9 transfer_sheet
    ≡ codes "Round 1, iteration 1: Ann Archer (1) with 10.000000000 votes reaches the quota of 5.666666667 and is elected."
    ∷ codes "Round 2, iteration 3: Ben Baker (2) with 4.000000000 votes reaches the quota of 3.740740744 and is elected."
    ∷ codes "End: All seats are taken."
    ∷ codes "End: Cid Carter (3) is defeated: no seat is left."
    ∷ codes "Result"
    ∷ codes "Ann Archer (1): elected"
    ∷ codes "Ben Baker (2): elected"
    ∷ codes "Cid Carter (3): defeated"
    ∷ []

-- ---- iterations that are no whole count

-- the first of four is withdrawn
abbrev pub four : List Row → List State → SheetList
four rows last = record {
  title = codes "Four";
  seats = 2;
  ballots = 9;
  names = codes "Ann" ∷ codes "Ben" ∷ codes "Cid" ∷ codes "Dee" ∷ [];
  rows = rows;
  last = last;
}

-- Two of those who have the quota are elected, and one has fewer votes: no lot chooses.
abbrev pub GreaterVotesFirst : Type 0
GreaterVotesFirst =
    decision_lines 9
    (four
    (row_of 7 1 (Withdrawn ∷ Hopeful ∷ Hopeful ∷ Hopeful ∷ []) (0 ∷ 4000000000 ∷ 3000000002 ∷ 3000000001 ∷ []) 10000000003 3000000001 1 (two_of 2 3 4) Elected ∷ [])
    (Withdrawn ∷ IsElected ∷ IsElected ∷ Defeated ∷ []))
    ≡ codes "Round 7, iteration 1: Ben (2) with 4.000000000 votes, Cid (3) with 3.000000002 votes and Dee (4) with 3.000000001 votes reach the quota of 3.000000001."
    ∷ codes "Round 7, iteration 1: Seats left for them: 2. Ben (2) with 4.000000000 votes and Cid (3) with 3.000000002 votes are elected: a greater vote comes first."
    ∷ codes "End: All seats are taken."
    ∷ codes "End: Dee (4) is defeated: no seat is left."
    ∷ codes "Result"
    ∷ codes "Ann (1): withdrawn"
    ∷ codes "Ben (2): elected"
    ∷ codes "Cid (3): elected"
    ∷ codes "Dee (4): defeated"
    ∷ []

-- Two are elected at once; later both are capped, and then one alone; the last is elected at the end.
abbrev pub SeveralAtOnce : Type 0
SeveralAtOnce =
    decision_lines 9
    (record (four
    (row_of 1 1 (Withdrawn ∷ Hopeful ∷ Hopeful ∷ Hopeful ∷ []) (0 ∷ 4000000000 ∷ 3000000000 ∷ 2000000000 ∷ []) 9000000000 2250000001 2499999998 (two_of 2 3 4) Elected
    ∷ record (row_of 2 1 (Withdrawn ∷ IsElected ∷ IsElected ∷ Hopeful ∷ []) (0 ∷ 1000000000 ∷ 500000000 ∷ 2000000000 ∷ []) 3500000000 2250000001 0 (nobody 4) Iterate)
    { capped = two_of 2 3 4 }
    ∷ record (row_of 2 2 (Withdrawn ∷ IsElected ∷ IsElected ∷ Hopeful ∷ []) (0 ∷ 3000000000 ∷ 500000000 ∷ 2000000000 ∷ []) 5500000000 2250000001 749999999 (nobody 4) Iterate)
    { capped = only 3 4 }
    ∷ [])
    (Withdrawn ∷ IsElected ∷ IsElected ∷ IsElected ∷ [])) { seats = 3 })
    ≡ codes "Round 1, iteration 1: Ben (2) with 4.000000000 votes and Cid (3) with 3.000000000 votes reach the quota of 2.250000001 and are elected."
    ∷ codes "Round 2, iteration 1: Ben (2) with 1.000000000 votes and Cid (3) with 0.500000000 votes have their keep values capped at one whole vote."
    ∷ codes "Round 2, iteration 2: Cid (3) with 0.500000000 votes has its keep value capped at one whole vote."
    ∷ codes "End: No more candidates are left than seats."
    ∷ codes "End: Dee (4) is elected: there is a seat for each who remains."
    ∷ codes "Result"
    ∷ codes "Ann (1): withdrawn"
    ∷ codes "Ben (2): elected"
    ∷ codes "Cid (3): elected"
    ∷ codes "Dee (4): elected"
    ∷ []
