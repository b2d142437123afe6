-- What is said of a text that is held to be the text of a day, or the summary of a made day.
use Rattle.std.specs.Prelude.{◌≡◌, ℕ, ◌<◌, List}
use Rattle.std.specs.Prelude.{Option}
use Rattle.batch_core.specs.declared.entry.Entry.{Entry}
use Rattle.day_reader.specs.declared.day.Day.{Day}
use Rattle.day_reader.specs.declared.script.Script.{Script}
use Rattle.sheet_check.specs.Comparison.{IsCompared}
use Rattle.sheet_check.specs.Difference.{IsFirstDifference, line_at}
use Rattle.day_lines.specs.declared.terms.Terms.{Terms}
use Rattle.day_lines.specs.DayHistory.{IsHistoryOf}
use Rattle.day_lines.specs.DayText.{terms_of, IsDayText}
use Rattle.day_replay.specs.Nearest.{IsNearest}
use Rattle.day_sheets.specs.MadeDay.{made_day}
use Rattle.day_sheets.specs.Summary.{IsSummary}
use Rattle.day_replay.specs.declared.day_verdict.DayVerdict.{DayVerdict}
use Rattle.day_replay.specs.declared.day_verdict.DayVerdict.TheVariants.{True, False}

-- The calls of the day's teams can be answered as a history whose text this is.
abbrev pub IsTextOf : Day → (text : List ℕ) → Type 0
IsTextOf day text = (history : List Entry) × IsHistoryOf day.scripts history × IsDayText (terms_of day) history text

-- The calls of the made day's teams can be answered as a history whose summary this is.
abbrev pub IsSummaryOf : (number : ℕ) → (text : List ℕ) → Type 0
IsSummaryOf number text =
    (history : List Entry) × IsHistoryOf (made_day number).scripts history
    × IsSummary number (terms_of (made_day number)) history text

-- the first n lines of one text are those of another
abbrev pub BeginAlike : ℕ → (one other : List ℕ) → Type 0
BeginAlike n one other = (k : ℕ) → k < n → line_at k one ≡ line_at k other

-- Of the texts that are lawful, line n, from 1, is false: the lines before it begin one of them, and none has this line
-- after them.
pub record IsFalseAt (IsLawful : List ℕ → Type 0) (text : List ℕ) (n : ℕ) : Type 0 where
  pub nearest : List ℕ
  pub lawful : IsLawful nearest
  pub differs : IsFirstDifference text nearest n
  pub no_longer : (other : List ℕ) → IsLawful other → BeginAlike n text other → ⊥

-- The verdict on a text: whether it is lawful, and else which line is the first that no lawful text has there, given the
-- lines before it.
abbrev pub IsVerdict : (IsLawful : List ℕ → Type 0) → (text : List ℕ) → DayVerdict → Type 0
IsVerdict IsLawful text True = IsLawful text
IsVerdict IsLawful text (False n) = IsFalseAt IsLawful text n

-- lawful are the texts of all histories of the day
abbrev pub IsDayVerdict : Day → (text : List ℕ) → DayVerdict → Type 0
IsDayVerdict day text verdict = IsVerdict (IsTextOf day) text verdict

-- the day of these terms and scripts
abbrev pub day_of : Terms → List Script → Day
day_of terms scripts = record {
  roll = terms.roll;
  lots = terms.lots;
  places = terms.places;
  omega = terms.omega;
  scripts = scripts;
}

-- the first difference of a text from that of the history of these scripts that is nearest to it
pub record DiffersFromNearest (terms : Terms) (scripts : List Script) (text : List ℕ) (found : Option ℕ) : Type 0 where
  pub history : List Entry
  pub is_history : IsHistoryOf scripts history
  pub is_nearest : IsNearest scripts text history
  pub compared : IsCompared (IsDayText terms history) text found

-- the first difference of a text from the summary of a history of these scripts
pub record DiffersFromSummary (number : ℕ) (terms : Terms) (scripts : List Script) (text : List ℕ) (found : Option ℕ) : Type 0
  where
    pub history : List Entry
    pub is_history : IsHistoryOf scripts history
    pub compared : IsCompared (IsSummary number terms history) text found

-- lawful are the summaries of all histories of the made day
abbrev pub IsTrialVerdict : (number : ℕ) → (text : List ℕ) → DayVerdict → Type 0
IsTrialVerdict number text verdict = IsVerdict (IsSummaryOf number) text verdict
