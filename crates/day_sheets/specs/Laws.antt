-- Laws of every history of a day's calls.
use Rattle.std.specs.Prelude.{◌≡◌, ℕ, ◌≤◌, ⊤, List, All, length}
use Rattle.batch_core.specs.declared.call.Call.{Call}
use Rattle.batch_core.specs.declared.call.Call.TheVariants.{Change, Freeze, Strike}
use Rattle.batch_core.specs.declared.entry.Entry.{Entry}
use Rattle.batch_core.specs.Book.{empty, batch_of}
use Rattle.batch_core.specs.Histories.{after_all}
use Rattle.day_reader.specs.declared.script.Script.{Script}
use Rattle.day_lines.specs.DayHistory.{IsHistoryOf}
use Rattle.day_lines.specs.DayText.{terms_of}
use Rattle.day_sheets.specs.MadeDay.{made_day}
use Rattle.day_sheets.specs.Summary.{IsSummary}

-- ---- teams with batches of their own

-- this team's call is about a batch of its own, or is a freeze
abbrev pub IsOfOwn : (team_of : ℕ → ℕ) → (team : ℕ) → Call → Type 0
IsOfOwn team_of team (Change change) = team_of (batch_of change) ≡ team
IsOfOwn team_of team Freeze = ⊤
IsOfOwn team_of team (Strike candidate) = ⊥

-- each batch is called by one team only, and no candidate is struck
abbrev pub AreSeparate : (team_of : ℕ → ℕ) → List Script → Type 0
AreSeparate team_of scripts = All (λ s. All (IsOfOwn team_of s.team) s.calls) scripts

-- If each batch is called by one team only and no candidate is struck, all histories of the scripts have the same number
-- of calls and lead to the same book, in whatever order the teams' calls are answered.
abbrev pub SeparateTeamsEndAlike : Type 0
SeparateTeamsEndAlike =
    (team_of : ℕ → ℕ) (scripts : List Script) (one other : List Entry) → AreSeparate team_of scripts
    → IsHistoryOf scripts one → IsHistoryOf scripts other
    → (length one ≡ length other) × (after_all empty one ≡ after_all empty other)

-- ---- made days

-- A made day has one summary, in whatever order its teams' calls are answered.
abbrev pub EachMadeDayHasOneSummary : Type 0
EachMadeDayHasOneSummary =
    (number : ℕ) (one other : List Entry) (a b : List ℕ)
    → IsHistoryOf (made_day number).scripts one → IsHistoryOf (made_day number).scripts other
    → IsSummary number (terms_of (made_day number)) one a → IsSummary number (terms_of (made_day number)) other b → a ≡ b
