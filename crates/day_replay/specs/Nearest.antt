-- The history of a day's scripts that goes with the lines of a text for as long as any does.
use Rattle.std.specs.Prelude.{◌≡◌, ℕ, ◌+◌, ◌<◌, ◌≤◌, List, [], length, take, slice_get, Some}
use Rattle.batch_core.specs.declared.call.Call.{Call}
use Rattle.batch_core.specs.declared.entry.Entry.{Entry}
use Rattle.day_reader.specs.declared.script.Script.{Script}
use Rattle.day_lines.specs.EntryText.{entry_line}
use Rattle.sheet_text.specs.Lines.{ended}
use Rattle.sheet_check.specs.Difference.{line_at}
use Rattle.day_lines.specs.DayHistory.{IsHistoryOf}
use Rattle.day_replay.specs.Calls.{left_of}
use Rattle.day_replay.specs.Saying.{Says}

-- the first n lines of a text are those of the first n calls of a history
abbrev pub BeginsAs : ℕ → (text : List ℕ) → List Entry → Type 0
BeginsAs n text history =
    (k : ℕ) (e : Entry) → k < n → slice_get history k ≡ Some e → line_at k text ≡ ended (entry_line (k + 1) e)

-- Where the first lines of the text are those of any history of the scripts, the first calls are this history's too.
abbrev pub IsNearest : List Script → (text : List ℕ) → List Entry → Type 0
IsNearest scripts text history =
    (other : List Entry) (n : ℕ) → IsHistoryOf scripts other → n ≤ length other → BeginsAs n text other
    → take n other ≡ take n history

-- Each call has been made by the team that its line names.
abbrev pub HasSaid : (text : List ℕ) → List Entry → Type 0
HasSaid text history =
    (k : ℕ) (e : Entry) → slice_get history k ≡ Some e → (1 ≤ e.caller) × Says (k + 1) e.caller (line_at k text)

-- The calls are those that the lines of the text say, up to the first line that names no team with calls left.
pub record HasFollowed (text : List ℕ) (left : List (List Call)) (history : List Entry) : Type 0 where
  pub said : HasSaid text history
  pub stops : (team : ℕ) → 1 ≤ team → Says (length history + 1) team (line_at (length history) text) → left_of left team ≡ []
