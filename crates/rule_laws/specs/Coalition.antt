-- Voters who rank the same candidates above all others.
use Rattle.std.specs.Prelude.{◌≡◌, ℕ, ◌+◌, ◌-◌, ◌*◌, ◌/◌, ◌<◌, ◌≤◌, ◌&&◌, ◌||◌, not, if◌then◌else◌, Bool, true, false, List, ◌++◌, length, sum}
use Rattle.std.specs.Prelude.{slice_index, All, Contains}
use Rattle.std.specs.List.Sorted.{IsPermutation}
use Rattle.fixed_place.specs.Rounding.{scale}
use Rattle.candidate_roll.specs.Roll.{RollList, is_withdrawn}
use Rattle.candidate_roll.specs.State.{state_at}
use Rattle.candidate_roll.specs.declared.state.State.{State}
use Rattle.lot_order.specs.Flags.{mark_at}
use Rattle.meek_rule.specs.declared.step.Step.{Step}
use Rattle.meek_rule.specs.declared.step.Step.TheVariants.{Elected, Iterate, Defeat}
use Rattle.meek_rule.specs.Places.{each_place, count_places}
use Rattle.meek_rule.specs.Situation.{is_elected}
use Rattle.meek_rule.specs.Surplus.{holds_seat}
use Rattle.meek_rule.specs.Rule.{Rule}
use Rattle.meek_rule.specs.Row.{Row}
use Rattle.meek_count.specs.Laws.{IsElection}
use Rattle.meek_count.specs.Rows.{IsCountUnder}

-- Some candidates are the members of a set: candidate c's mark is at place c - 1.

-- A ballot that ranks each member who was not withdrawn, and above none of them anybody else who was not.
pub record IsSolid (n : ℕ) (withdrawn members : List Bool) (ranking : List ℕ) : Type 0 where
  pub whole : (p : ℕ) → p < n → mark_at members p ≡ true → mark_at withdrawn p ≡ false → Contains ranking (p + 1)
  pub above :
      (i j : ℕ) → i < j → j < length ranking → mark_at members (slice_index ranking j - 1) ≡ true → mark_at withdrawn (slice_index ranking j - 1) ≡ false
      → (mark_at members (slice_index ranking i - 1) || is_withdrawn withdrawn (slice_index ranking i)) ≡ true

-- how many members of n candidates were not withdrawn, and how many are elected
abbrev pub running_members : (n : ℕ) → (withdrawn members : List Bool) → ℕ
running_members n withdrawn members = count_places n (λ p. mark_at members p && not (mark_at withdrawn p))

abbrev pub elected_members : (n : ℕ) → (members : List Bool) → List State → ℕ
elected_members n members states = count_places n (λ p. mark_at members p && is_elected (state_at states p))

-- the quota while nothing of any ballot is lost, which no quota of the count is above
abbrev pub whole_quota : (s seats ballots : ℕ) → ℕ
whole_quota s seats ballots = ballots * s / (seats + 1) + 1

-- the votes of the candidates at some places together, and a quota for each of them
abbrev pub votes_of : (at : ℕ → Bool) → Row → ℕ
votes_of at row = sum (each_place (length row.states) (λ p. if at p then slice_index row.votes p else 0))

abbrev pub quotas_of : (at : ℕ → Bool) → Row → ℕ
quotas_of at row = count_places (length row.states) at * row.quota

-- what the elected members have together above a quota for each, as the surplus is for all elected
abbrev pub members_surplus : (members : List Bool) → Row → ℕ
members_surplus members row =
    let ours : ℕ → Bool = λ p. mark_at members p && is_elected (state_at row.states p) in
    votes_of ours row - quotas_of ours row

-- what those who hold seats, winners included, and are no members lack together of a quota for each
abbrev pub others_lack : (members : List Bool) → Row → ℕ
others_lack members row =
    let theirs : ℕ → Bool = λ p. not (mark_at members p) && holds_seat row.states row.elected p in
    quotas_of theirs row - votes_of theirs row

-- What an iteration leaves over: where somebody is defeated the surplus that the elected members still have, and where somebody
-- is elected what the others who hold seats lack.
abbrev pub left_over : (members : List Bool) → Step → Row → ℕ
left_over members Elected row = others_lack members row
left_over members (Defeat c) row = members_surplus members row
left_over members Iterate row = 0

-- Where the ballots of some voters rank the same candidates above all others, are at least k quotas, and as much more as any
-- iteration leaves over, at least k of these candidates are elected, where so many run.
abbrev pub CoalitionsAreSeated : Type 0
CoalitionsAreSeated =
    (rule : Rule) (places omega : ℕ) (ballots coalition others : List (List ℕ)) (roll : RollList) (lots : List ℕ) (rows : List Row) (last : List State)
    (members : List Bool) (k over : ℕ)
    → IsElection places omega ballots roll lots → IsPermutation ballots (coalition ++ others)
    → IsCountUnder rule places omega ballots roll lots rows last
    → All (IsSolid (length roll.names) roll.withdrawn members) coalition
    → k ≤ running_members (length roll.names) roll.withdrawn members
    → All (λ row. left_over members row.step row ≤ over) rows
    → k * whole_quota (scale places) roll.seats (length ballots) + over ≤ length coalition * scale places
    → k ≤ elected_members (length roll.names) members last

-- The same by the quota that voters know, one share of the ballots for each seat and one besides: who are more than k of these
-- shares of all voters get k seats, where k units and what any iteration leaves over are together at most such a share of one vote.
abbrev pub SharesAreSeated : Type 0
SharesAreSeated =
    (rule : Rule) (places omega : ℕ) (ballots coalition others : List (List ℕ)) (roll : RollList) (lots : List ℕ) (rows : List Row) (last : List State)
    (members : List Bool) (k over : ℕ)
    → IsElection places omega ballots roll lots → IsPermutation ballots (coalition ++ others)
    → IsCountUnder rule places omega ballots roll lots rows last
    → All (IsSolid (length roll.names) roll.withdrawn members) coalition
    → k ≤ running_members (length roll.names) roll.withdrawn members
    → All (λ row. left_over members row.step row ≤ over) rows
    → (k + over) * (roll.seats + 1) ≤ scale places
    → k * length ballots < length coalition * (roll.seats + 1)
    → k ≤ elected_members (length roll.names) members last

-- For one seat the defeats don't matter: who are more than one share of all voters, and rank the same candidates above all others,
-- get a seat for one of them, where others who hold seats never lack as much as a share of one vote, less a unit.
abbrev pub ShareGetsASeat : Type 0
ShareGetsASeat =
    (rule : Rule) (places omega : ℕ) (ballots coalition others : List (List ℕ)) (roll : RollList) (lots : List ℕ) (rows : List Row) (last : List State)
    (members : List Bool) (over : ℕ)
    → IsElection places omega ballots roll lots → IsPermutation ballots (coalition ++ others)
    → IsCountUnder rule places omega ballots roll lots rows last
    → All (IsSolid (length roll.names) roll.withdrawn members) coalition
    → 1 ≤ running_members (length roll.names) roll.withdrawn members
    → All (λ row. row.step ≡ Elected → others_lack members row ≤ over) rows
    → (1 + over) * (roll.seats + 1) ≤ scale places
    → length ballots < length coalition * (roll.seats + 1)
    → 1 ≤ elected_members (length roll.names) members last

-- With one seat nothing is left over: of candidates whom more than half of the voters rank above all others one is elected.
abbrev pub SolidMajorityWins : Type 0
SolidMajorityWins =
    (rule : Rule) (places omega : ℕ) (ballots coalition others : List (List ℕ)) (roll : RollList) (lots : List ℕ) (rows : List Row) (last : List State)
    (members : List Bool)
    → IsElection places omega ballots roll lots → IsPermutation ballots (coalition ++ others)
    → IsCountUnder rule places omega ballots roll lots rows last
    → roll.seats ≡ 1
    → All (IsSolid (length roll.names) roll.withdrawn members) coalition
    → 1 ≤ running_members (length roll.names) roll.withdrawn members
    → length ballots < 2 * length coalition
    → 1 ≤ elected_members (length roll.names) members last
