-- What the parts of a run come to.
use Rattle.std.specs.Prelude.{◌≡◌, ◌⊎◌, ℕ, List, []}
use Rattle.batch_core.specs.declared.entry.Entry.{Entry}
use Rattle.day_reader.specs.declared.day.Day.{Day as DayFile}
use Rattle.tool_edge.specs.declared.end.End.TheVariants.{Done, NoMemory}
use Rattle.tool_edge.specs.Streams.{Writing, NothingWritten}
use Rattle.tool_edge.specs.Finishing.{Finishes, FinishesOwed}
use Rattle.tool_edge.specs.Tool.{IsOwedFor, Works}
use Rattle.meek_cli.specs.declared.work.Work.TheVariants.{Count, Day, Trial}
use Rattle.meek_cli.specs.Status.{Status}
use Rattle.day_lines.specs.DayText.{terms_of, IsDayText}
use Rattle.day_lines.specs.DayHistory.{IsHistoryOf}
use Rattle.day_sheets.specs.Summary.{IsSummary}
use Rattle.meek_cli.specs.Owed.{meek}

-- what a count by these lots of this input came to: what is owed was written, or memory was wanted before the first byte
abbrev pub FinishesCount : (lots input : List ℕ) → Status → Writing → Type 0
FinishesCount lots input status sink = FinishesOwed (IsOwedFor meek (Count lots) input []) status sink

-- what a day of this input came to
abbrev pub FinishesDay : (input : List ℕ) → Status → List Entry → Writing → Type 0
FinishesDay input status history sink = Works meek Day input status history sink

-- what playing a day came to: the text of a history of its scripts was written, or memory was wanted before the first byte
abbrev pub PlaysDay : DayFile → Status → List Entry → Writing → Type 0
PlaysDay day status history sink =
    ((status ≡ NoMemory) × (history ≡ []) × NothingWritten sink)
    ⊎ (IsHistoryOf day.scripts history
    × ((text : List ℕ) × IsDayText (terms_of day) history text × Finishes Done text status sink))

-- what a trial came to, which has no input
abbrev pub FinishesTrial : (number : ℕ) → Status → List Entry → Writing → Type 0
FinishesTrial number status history sink = Works meek (Trial number) [] status history sink

-- what playing a made day came to: the summary of a history of its scripts was written, or memory was wanted before the
-- first byte
abbrev pub PlaysTrial : (number : ℕ) → DayFile → Status → List Entry → Writing → Type 0
PlaysTrial number day status history sink =
    ((status ≡ NoMemory) × (history ≡ []) × NothingWritten sink)
    ⊎ (IsHistoryOf day.scripts history
    × ((text : List ℕ) × IsSummary number (terms_of day) history text × Finishes Done text status sink))
