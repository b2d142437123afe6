-- How far a count has come.
use Rattle.std.specs.Prelude.{◌≡◌, ℕ, ◌≤◌, ◌++◌, Bool, List, length}
use Rattle.plain_ballots.specs.declared.limits.TheConstants.{MOST_BALLOTS}
use Rattle.candidate_roll.specs.Roll.{RollList}
use Rattle.candidate_roll.specs.declared.state.State.{State}
use Rattle.lot_order.specs.Lots.{IsOrder}
use Rattle.meek_rule.specs.Rule.{Rule}
use Rattle.meek_rule.specs.Situation.{Situation, IsValid, IsOnItsWay, opening}
use Rattle.meek_rule.specs.Row.{Row, HasRoomFor}
use Rattle.meek_count.specs.Rows.{Rows}

-- the election that is counted, where the count stands, and the row of the last iteration once one was made
pub record Progress : Type 0 where
  pub roll : RollList
  pub lots : List ℕ
  pub ballots : List (List ℕ)
  pub situation : Situation
  pub has_row : Bool
  pub row : Row

-- the election that is counted stays the same
pub record IsSameElection (old new : Progress) : Type 0 where
  pub roll : new.roll ≡ old.roll
  pub lots : new.lots ≡ old.lots
  pub ballots : new.ballots ≡ old.ballots

-- the count was just begun: it is where its roll opens, with the omega that it keeps
abbrev pub HasJustBegun : (s : ℕ) → Progress → Type 0
HasJustBegun s count = count.situation ≡ opening s count.situation.omega count.roll.seats count.roll.withdrawn

-- some rows lead from here to the end
abbrev pub HasRest : Rule → (s : ℕ) → Progress → Type 0
HasRest rule s count = (rows : List Row) × (last : List State) × Rows rule s count.ballots count.lots count.situation rows last

-- These rows lead from the earlier to the later standing: rows that lead on from there lead, after these,
-- from the earlier one to the same end.
pub record RowsLead (rule : Rule) (s : ℕ) (old : Progress) (done : List Row) (new : Progress) : Type 0 where
  pub same : IsSameElection old new
  pub onward :
      (rows : List Row) (last : List State) → Rows rule s new.ballots new.lots new.situation rows last
      → Rows rule s old.ballots old.lots old.situation (done ++ rows) last

-- What a count keeps: it can go on from where it stands, and never comes to the end of a number's type.
pub record IsCounting (s most : ℕ) (count : Progress) : Type 0 where
  pub valid : IsValid s count.situation
  pub on_its_way : IsOnItsWay most count.situation
  pub order_of_lots : IsOrder count.lots
  pub lots_of_all : length count.lots ≡ length count.situation.states
  pub names_of_all : length count.roll.names ≡ length count.situation.states
  pub row_of_all : HasRoomFor (length count.situation.states) count.row
  pub few_ballots : length count.ballots ≤ MOST_BALLOTS
