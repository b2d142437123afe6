-- What laws say in figures, right at their limits: of elections at nine places.
use Rattle.std.specs.Prelude.{◌≡◌, ℕ, ◌-◌, ◌≤◌, Bool, true, false, List, [], ◌∷◌, ◌++◌, length, slice_index, All}
use Rattle.std.specs.List.Sorted.{IsPermutation}
use Rattle.candidate_roll.specs.Roll.{RollList}
use Rattle.candidate_roll.specs.State.{state_at}
use Rattle.candidate_roll.specs.declared.state.State.{State}
use Rattle.candidate_roll.specs.declared.state.State.TheVariants.{Hopeful, Elected as IsElected}
use Rattle.meek_rule.specs.declared.step.Step.TheVariants.{Elected, Defeat}
use Rattle.meek_rule.specs.Rule.{Rule}
use Rattle.meek_rule.specs.Row.{Row, blank}
use Rattle.meek_rule.specs.Situation.{elected_count}
use Rattle.meek_count.specs.Laws.{IsElection}
use Rattle.meek_count.specs.Rows.{IsCountUnder}
use Rattle.rule_laws.specs.Coalition.{IsSolid, elected_members, left_over, others_lack, running_members}
use Rattle.rule_laws.specs.Majority.{first_count}
use Rattle.rule_laws.specs.Orderly.{IsOrderly, shortfalls}
use Rattle.rule_laws.specs.Plurality.{mention_count}
use Rattle.rule_laws.specs.Silent.{heard_count}

-- a count, by either rule, of so many ballots to so many seats
pub record Counted (seats voters : ℕ) : Type 0 where
  pub rule : Rule
  pub omega : ℕ
  pub ballots : List (List ℕ)
  pub roll : RollList
  pub lots : List ℕ
  pub rows : List Row
  pub last : List State
  pub election : IsElection 9 omega ballots roll lots
  pub count : IsCountUnder rule 9 omega ballots roll lots rows last
  pub to_seats : roll.seats ≡ seats
  pub of_voters : length ballots ≡ voters

-- a count in which so many ballots are solid for some candidates, of whom at least k run
pub record WithSolid (seats voters solid k : ℕ) : Type 0 where
  pub counted : Counted seats voters
  pub members : List Bool
  pub coalition : List (List ℕ)
  pub others : List (List ℕ)
  pub parts : IsPermutation counted.ballots (coalition ++ others)
  pub are_solid : All (IsSolid (length counted.roll.names) counted.roll.withdrawn members) coalition
  pub so_many : length coalition ≡ solid
  pub running : k ≤ running_members (length counted.roll.names) counted.roll.withdrawn members

-- k of these candidates are elected
abbrev pub HaveSeats : {seats voters solid k : ℕ} → WithSolid seats voters solid k → Type 0
HaveSeats {k = k} w = k ≤ elected_members (length w.counted.roll.names) w.members w.counted.last

-- ---- seats

-- Of four candidates the second was withdrawn: two of the others have the two seats. Or all but the third: she has one of the two.
abbrev pub TwoOfThree : Type 0
TwoOfThree =
    (voters : ℕ) (c : Counted 2 voters) → c.roll.withdrawn ≡ false ∷ true ∷ false ∷ false ∷ [] → elected_count c.last ≡ 2

abbrev pub OneIsLeft : Type 0
OneIsLeft =
    (voters : ℕ) (c : Counted 2 voters) → c.roll.withdrawn ≡ true ∷ true ∷ false ∷ true ∷ [] → elected_count c.last ≡ 1

-- To two seats, too, both rules have the same count.
abbrev pub TwoSeatsAlike : Type 0
TwoSeatsAlike =
    (voters : ℕ) (c : Counted 2 voters) (rule : Rule) → IsCountUnder rule 9 c.omega c.ballots c.roll c.lots c.rows c.last

-- ---- first preferences

-- nine of 26, one more than a third, for one of two seats; and 14 of 27, for the only one
abbrev pub NineOf26 : Type 0
NineOf26 = (c : Counted 2 26) (who : ℕ) → first_count c.roll.withdrawn c.ballots who ≡ 9 → state_at c.last (who - 1) ≡ IsElected

abbrev pub FourteenOf27 : Type 0
FourteenOf27 = (c : Counted 1 27) (who : ℕ) → first_count c.roll.withdrawn c.ballots who ≡ 14 → state_at c.last (who - 1) ≡ IsElected

-- First on four ballots, against three that name the other at all, and defeated with a vote less a unit of surplus, if at all.
abbrev pub FourBeforeThree : Type 0
FourBeforeThree =
    (seats voters : ℕ) (c : Counted seats voters) (who other : ℕ)
    → All (λ row. row.step ≡ Defeat who → row.surplus ≤ 999999999) c.rows
    → 1 ≤ other → mention_count c.ballots other ≡ 3 → first_count c.roll.withdrawn c.ballots who ≡ 4
    → state_at c.last (other - 1) ≡ IsElected → state_at c.last (who - 1) ≡ IsElected

-- ---- solid ballots

-- Candidate 2 was withdrawn, so a ballot is solid for 1 and 2 that ranks 1, and 2 nowhere.
abbrev pub SolidWithoutTheWithdrawn : Type 0
SolidWithoutTheWithdrawn = IsSolid 3 (false ∷ true ∷ false ∷ []) (true ∷ true ∷ false ∷ []) (1 ∷ 3 ∷ [])

-- 14 of 27 for the only seat
abbrev pub SolidFourteenOf27 : Type 0
SolidFourteenOf27 = (w : WithSolid 1 27 14 1) → HaveSeats w

-- Four of ten have 4 votes: a quota of 3.333333334 for one of two seats, and 0.666666666 besides.
abbrev pub FourOfTen : Type 0
FourOfTen =
    (w : WithSolid 2 10 4 1) → All (λ row. left_over w.members row.step row ≤ 666666666) w.counted.rows → HaveSeats w

-- The same of four in 13, of whom three rank nobody who runs.
abbrev pub FourOfTenHeard : Type 0
FourOfTenHeard =
    (w : WithSolid 2 13 4 1) → heard_count w.counted.roll.withdrawn w.counted.ballots ≡ 10
    → All (λ row. left_over w.members row.step row ≤ 666666666) w.counted.rows → HaveSeats w

-- Five of twelve are just more than two fifths, for two of four seats: two units and 0.199999998 are a fifth of a vote.
abbrev pub FiveOfTwelve : Type 0
FiveOfTwelve =
    (w : WithSolid 4 12 5 2) → All (λ row. left_over w.members row.step row ≤ 199999998) w.counted.rows → HaveSeats w

-- The same where the surplus and what is lacked make up these 0.199999998.
abbrev pub OrderlyFiveOfTwelve : Type 0
OrderlyFiveOfTwelve = (w : WithSolid 4 12 5 2) → All (IsOrderly 150000000 49999998) w.counted.rows → HaveSeats w

-- 98 of 1,633 are just more than three fiftieths, for three of 49 seats, where a hundredth is left at most and nine thousandths lack.
abbrev pub QuietThreeOf49 : Type 0
QuietThreeOf49 = (w : WithSolid 49 1633 98 3) → All (IsOrderly 10000000 9000000) w.counted.rows → HaveSeats w

-- Three of 14 are just more than a fifth, for one of four seats: what the others lack and a unit are a fifth of a vote.
abbrev pub ThreeOf14 : Type 0
ThreeOf14 =
    (w : WithSolid 4 14 3 1) → All (λ row. row.step ≡ Elected → others_lack w.members row ≤ 199999999) w.counted.rows → HaveSeats w

-- ---- rows

-- Candidate 1 holds a seat and has 4.2 votes, 2 is being elected and has 3.5, 3 is hopeful and has 1, where the quota is 4 votes.
abbrev pub winner_below : Row
winner_below =
    record (blank 3) {
      states = IsElected ∷ Hopeful ∷ Hopeful ∷ [];
      votes = 4200000000 ∷ 3500000000 ∷ 1000000000 ∷ [];
      quota = 4000000000;
      elected = false ∷ true ∷ false ∷ [];
      step = Elected;
    }

-- What 2 lacks counts, and what 1 has above the quota doesn't make up for it.
abbrev pub HalfAVoteLacks : Type 0
HalfAVoteLacks = shortfalls winner_below ≡ 500000000

-- With just the quota, and a vote less a unit, a keep value of 5 units becomes 6 at most.
abbrev pub RisesToSix : Type 0
RisesToSix =
    (seats voters : ℕ) (c : Counted seats voters) (earlier : List Row) (row next : Row) (later : List Row) (p : ℕ)
    → c.rows ≡ earlier ++ row ∷ next ∷ later
    → row.quota ≡ 999999999 → slice_index row.votes p ≡ 999999999 → slice_index row.keeps p ≡ 5
    → slice_index next.keeps p ≤ 6
