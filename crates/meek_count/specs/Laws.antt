-- Each election has one count by each rule.
use Rattle.std.specs.Prelude.{◌≡◌, ℕ, ◌≤◌, ◌↔◌, List, length, All}
use Rattle.std.specs.List.Sorted.{IsPermutation}
use Rattle.plain_ballots.specs.declared.limits.TheConstants.{MOST_BALLOTS}
use Rattle.fixed_place.specs.declared.omega.TheConstants.{MOST_OMEGA}
use Rattle.candidate_roll.specs.Roll.{RollList, IsRoll}
use Rattle.candidate_roll.specs.declared.state.State.{State}
use Rattle.plain_ballots.specs.Ranking.{IsRanking}
use Rattle.lot_order.specs.Lots.{IsOrder}
use Rattle.meek_rule.specs.Rule.{Rule}
use Rattle.meek_rule.specs.Situation.{Situation, IsValid}
use Rattle.meek_rule.specs.Row.{Row}
use Rattle.meek_count.specs.Ranges.{IsInRange}
use Rattle.meek_count.specs.Rows.{Rows, IsCountUnder}

-- what can be counted: at most 999,999,999 rankings of the roll's candidates, and an order of lots of all of them
pub record IsElection (places omega : ℕ) (ballots : List (List ℕ)) (roll : RollList) (lots : List ℕ) : Type 0 where
  pub places_from : 6 ≤ places
  pub places_to : places ≤ 9
  pub some_omega : 1 ≤ omega
  pub small_omega : omega ≤ MOST_OMEGA
  pub few_ballots : length ballots ≤ MOST_BALLOTS
  pub rankings : All (IsRanking (length roll.names)) ballots
  pub sound_roll : IsRoll roll
  pub order_of_lots : IsOrder lots
  pub lots_of_all : length lots ≡ length roll.names

-- these rows and states are the only ones with this property
pub record AreOnly (is : List Row → List State → Type 0) (rows : List Row) (last : List State) : Type 0 where
  pub are : is rows last
  pub only : (others : List Row) (end : List State) → is others end → (others ≡ rows) × (end ≡ last)

-- By each rule an election has exactly one list of rows with one list of last states.
abbrev pub EachElectionHasOneCount : Type 0
EachElectionHasOneCount =
    (rule : Rule) (places omega : ℕ) (ballots : List (List ℕ)) (roll : RollList) (lots : List ℕ)
    → IsElection places omega ballots roll lots
    → (rows : List Row) × (last : List State) × AreOnly (IsCountUnder rule places omega ballots roll lots) rows last

-- So has each valid situation, wherever it comes from: exactly one list of rows leads from it to the end.
abbrev pub EachSituationHasOneEnd : Type 0
EachSituationHasOneEnd =
    (rule : Rule) (s : ℕ) (ballots : List (List ℕ)) (lots : List ℕ) (now : Situation)
    → 1 ≤ s → IsValid s now → IsOrder lots → length lots ≡ length now.states
    → (rows : List Row) × (last : List State) × AreOnly (Rows rule s ballots lots now) rows last

-- The order of the ballots changes nothing.
abbrev pub OrderOfBallotsChangesNothing : Type 0
OrderOfBallotsChangesNothing =
    (rule : Rule) (places omega : ℕ) (ballots other : List (List ℕ)) (roll : RollList) (lots : List ℕ) (rows : List Row) (last : List State)
    → IsPermutation ballots other
    → IsCountUnder rule places omega ballots roll lots rows last ↔ IsCountUnder rule places omega other roll lots rows last

-- Every iteration of an election's count stays in range, and the last states are those of all candidates.
abbrev pub RowsStayInRange : Type 0
RowsStayInRange =
    (rule : Rule) (places omega : ℕ) (ballots : List (List ℕ)) (roll : RollList) (lots : List ℕ) (rows : List Row) (last : List State)
    → IsElection places omega ballots roll lots → IsCountUnder rule places omega ballots roll lots rows last
    → All (IsInRange places (length roll.names)) rows × (length last ≡ length roll.names)
