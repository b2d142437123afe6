-- The text of a day that was run is read back, at the day's places.
use Rattle.std.specs.Prelude.{◌≡◌, ℕ, List, All, length, Result}
use Rattle.plain_ballots.specs.Ballots.{plain}
use Rattle.candidate_roll.specs.declared.state.State.{State}
use Rattle.meek_rule.specs.Row.{Row}
use Rattle.meek_rule.specs.Rule.{Meek}
use Rattle.meek_count.specs.Laws.{IsElection}
use Rattle.meek_count.specs.Rows.{IsCountUnder}
use Rattle.sheet_reader.specs.Laws.{HasNames, values_of}
use Rattle.batch_core.specs.declared.entry.Entry.{Entry}
use Rattle.batch_core.specs.Histories.{standing_after, struck_after}
use Rattle.day_lines.specs.declared.terms.Terms.{Terms}
use Rattle.day_lines.specs.DayHistory.{EndsWithTheClerk}
use Rattle.day_lines.specs.DayText.{roll_with, IsDayText}
use Rattle.day_text.specs.declared.day_stop.DayStop.{DayStop}
use Rattle.day_text.specs.Values.{FrozenSheet, DayTextList}
use Rattle.day_text.specs.Without.{without_ballots}
use Rattle.day_text.specs.Said.{IsSaidEntry}
use Rattle.day_text.specs.Form.{HasDayForm}
use Rattle.day_text.specs.Reading.{Reads, IsReadAs}

-- the sheet says the count of what stands after the first calls, up to its freeze
abbrev pub SaysCountAt : Terms → List Entry → FrozenSheet → Type 0
SaysCountAt terms history s =
    let ballots = plain (standing_after history s.freeze) in
    let roll = roll_with terms.roll (struck_after history s.freeze) in
    (rows : List Row) × (last : List State)
    × IsCountUnder Meek terms.places terms.omega ballots roll terms.lots rows last
    × (s.values ≡ values_of roll (length ballots) rows last)

-- the values are the history's calls and replies, and the counts of its freezes
pub record SaysHistory (terms : Terms) (history : List Entry) (v : DayTextList) : Type 0 where
  pub calls : v.history ≡ without_ballots history
  pub sheets : All (SaysCountAt terms history) v.sheets

-- What a history that is printed must be: its numbers are in range, it ends with the clerk's freeze, and what is at
-- any of its calls can be counted.
pub record MayBePrinted (terms : Terms) (history : List Entry) : Type 0 where
  pub calls : All IsSaidEntry (without_ballots history)
  pub ends : EndsWithTheClerk history
  pub names : HasNames terms.roll
  pub elections : (n : ℕ) → IsElection terms.places terms.omega (plain (standing_after history n)) (roll_with terms.roll (struck_after history n)) terms.lots

-- The text of a history has the form, and it says the history and the counts of its freezes.
abbrev pub HistoriesHaveTheForm : Type 0
HistoriesHaveTheForm =
    (terms : Terms) (history : List Entry) (text : List ℕ) → MayBePrinted terms history → IsDayText terms history text
    → (values : DayTextList) × HasDayForm terms.places text values × SaysHistory terms history values

-- So a text that was written is read back, each call, reply and count as it was.
abbrev pub HistoriesAreReadBack : Type 0
HistoriesAreReadBack =
    (terms : Terms) (history : List Entry) (text : List ℕ) (result : Result DayTextList DayStop)
    → MayBePrinted terms history → IsDayText terms history text → Reads terms.places text result
    → (values : DayTextList) × SaysHistory terms history values × IsReadAs values result
