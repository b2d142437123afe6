-- What the program accepts, refuses and owes.
use Rattle.std.specs.Prelude.{◌≡◌, ℕ, List, [], true}
use Rattle.input_text.specs.declared.input_fault.InputFault.{InputFault}
use Rattle.input_text.specs.Scan.{scan}
use Rattle.batch_core.specs.declared.entry.Entry.{Entry}
use Rattle.day_reader.specs.declared.day.Day.{Day as DayFile}
use Rattle.day_reader.specs.Said.{IsDayRefusal}
use Rattle.meek_trial.specs.Trial.{trial_day}
use Rattle.tool_edge.specs.Contest.{IsRefusedContest}
use Rattle.tool_edge.specs.Refusals.{file_refusals}
use Rattle.tool_edge.specs.Tool.{Tool}
use Rattle.tool_edge.specs.Tools.{IsContestFile}
use Rattle.ballot_count.specs.Owed.{OwesSheet}
use Rattle.meek_cli.specs.declared.work.Work.{Work}
use Rattle.meek_cli.specs.declared.work.Work.TheVariants.{Count, Day, Trial}
use Rattle.day_lines.specs.DayText.{terms_of}
use Rattle.day_lines.specs.DayHistory.{IsHistoryOf}
use Rattle.day_lines.specs.Owed.{SaysDay, OwesDay}
use Rattle.day_sheets.specs.Summary.{IsSummary}
use Rattle.meek_cli.specs.Work.{AsksFor, limit_of}

-- ---- what a trial owes

-- The calls of the teams of the made day are answered as one history, and the summary of this history is owed.
pub record OwesTrial (number : ℕ) (history : List Entry) (bytes : List ℕ) : Type 0 where
  pub day : DayFile
  pub says : SaysDay (trial_day number) day
  pub calls : IsHistoryOf day.scripts history
  pub summary : IsSummary number (terms_of day) history bytes

-- ---- the work

-- a file that can be counted by the lots, or a day file; a trial is never refused
abbrev pub Accepts : Work → (input : List ℕ) → Type 0
Accepts (Count lots) input = IsContestFile lots input
Accepts Day input = (day : DayFile) × SaysDay input day
Accepts (Trial number) input = Unit {0}

-- why another input is refused
abbrev pub Refuses : Work → (input : List ℕ) → InputFault → Type 0
Refuses (Count lots) input fault = IsRefusedContest lots input fault
Refuses Day input fault = IsDayRefusal (scan input true) fault
Refuses (Trial number) input fault = ⊥

-- the sheet, with no call answered; the text of the day; or the summary of the trial
abbrev pub Owes : Work → (input : List ℕ) → List Entry → (bytes : List ℕ) → Type 0
Owes (Count lots) input history bytes = (history ≡ []) × OwesSheet lots input bytes
Owes Day input history bytes = OwesDay input history bytes
Owes (Trial number) input history bytes = OwesTrial number history bytes

-- The program: what is called besides are the calls of a day's teams and its clerk.
abbrev pub meek : Tool Work (List Entry) InputFault
meek = record {
  Takes = AsksFor;
  limit = limit_of;
  Accepts = Accepts;
  Refuses = Refuses;
  refusals = file_refusals;
  Owes = Owes;
  no_calls = [];
}
