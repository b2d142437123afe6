-- A sheet that is written is read back, at each number of places from 6 to 9.
use Rattle.std.specs.Prelude.{◌≡◌, ◌≢◌, ℕ, ◌≤◌, List, [], length, All, Result}
use Rattle.candidate_roll.specs.declared.limits.TheConstants.{MOST_NAME_BYTES, MOST_TITLE_BYTES}
use Rattle.candidate_roll.specs.Name.{IsName}
use Rattle.candidate_roll.specs.Roll.{RollList}
use Rattle.candidate_roll.specs.declared.state.State.{State}
use Rattle.meek_rule.specs.Row.{Row}
use Rattle.meek_rule.specs.Rule.{Rule}
use Rattle.meek_count.specs.Laws.{IsElection}
use Rattle.meek_count.specs.Rows.{IsCountUnder}
use Rattle.sheet_text.specs.Sheet.{IsSheetUnder}
use Rattle.sheet_reader.specs.declared.sheet_stop.SheetStop.{SheetStop}
use Rattle.sheet_reader.specs.Form.{HasForm}
use Rattle.sheet_reader.specs.Reading.{Reads, IsReadAs}
use Rattle.sheet_reader.specs.Values.{SheetList}

-- A text is the sheet of one title, one list of names, of iterations and of last states at most.
abbrev pub FormSaysItsValues : Type 0
FormSaysItsValues =
    (places : ℕ) (bytes : List ℕ) (values others : SheetList) → 6 ≤ places → places ≤ 9
    → HasForm places bytes values → HasForm places bytes others → values ≡ others

-- Where it is the sheet of iterations it is so at one number of places, since an iteration prints amounts. A text without
-- any iteration prints none, and is the same sheet at each number of places.
abbrev pub IterationsSayTheirPlaces : Type 0
IterationsSayTheirPlaces =
    (one other : ℕ) (bytes : List ℕ) (values others : SheetList) → 6 ≤ one → one ≤ 9 → 6 ≤ other → other ≤ 9
    → HasForm one bytes values → HasForm other bytes others → values.rows ≢ [] → one ≡ other

abbrev pub NoIterationSaysNoPlaces : Type 0
NoIterationSaysNoPlaces =
    (one other : ℕ) (bytes : List ℕ) (values : SheetList) → HasForm one bytes values → values.rows ≡ [] → HasForm other bytes values

-- So the values that were written into a text are those that are read of it.
abbrev pub WrittenValuesAreRead : Type 0
WrittenValuesAreRead =
    (places : ℕ) (bytes : List ℕ) (values : SheetList) (result : Result SheetList SheetStop) → 6 ≤ places → places ≤ 9
    → HasForm places bytes values → Reads places bytes result → IsReadAs values result

-- a title and names such as ballot files have
pub record HasNames (roll : RollList) : Type 0 where
  pub title : IsName MOST_TITLE_BYTES roll.title
  pub names : All (IsName MOST_NAME_BYTES) roll.names

-- what the sheet of a count says of it
abbrev pub values_of : RollList → (ballots : ℕ) → List Row → List State → SheetList
values_of roll ballots rows last =
    record { title = roll.title; seats = roll.seats; ballots = ballots; names = roll.names; rows = rows; last = last }

-- The sheet of an election has the form, and it says the iterations and the last states of the election's count.
abbrev pub SheetsHaveTheForm : Type 0
SheetsHaveTheForm =
    (rule : Rule) (places omega : ℕ) (ballots : List (List ℕ)) (roll : RollList) (lots text : List ℕ) (rows : List Row)
    (last : List State)
    → IsElection places omega ballots roll lots → HasNames roll
    → IsSheetUnder rule places omega ballots roll lots text → IsCountUnder rule places omega ballots roll lots rows last
    → HasForm places text (values_of roll (length ballots) rows last)

-- So a sheet that was written is read back, each amount, state and step of its count as it was.
abbrev pub SheetsAreReadBack : Type 0
SheetsAreReadBack =
    (rule : Rule) (places omega : ℕ) (ballots : List (List ℕ)) (roll : RollList) (lots text : List ℕ) (rows : List Row)
    (last : List State) (result : Result SheetList SheetStop)
    → IsElection places omega ballots roll lots → HasNames roll
    → IsSheetUnder rule places omega ballots roll lots text → IsCountUnder rule places omega ballots roll lots rows last
    → Reads places text result → IsReadAs (values_of roll (length ballots) rows last) result
