-- What the tool accepts, refuses and writes.
use Rattle.std.specs.Prelude.{◌≡◌, ℕ, ◌≤◌, List, [], ◌∷◌, ◌++◌, codes, decimal, Some}
use Rattle.plain_ballots.specs.Ballots.{plain}
use Rattle.candidate_roll.specs.Roll.{RollList}
use Rattle.frozen_plan.specs.Plan.{all_ballots}
use Rattle.batch_core.specs.declared.entry.Entry.{Entry}
use Rattle.batch_core.specs.Histories.{standing_after, struck_after}
use Rattle.frozen_version.specs.Versions.{VersionState}
use Rattle.day_reader.specs.declared.day.Day.{Day}
use Rattle.blt_writer.specs.Text.{IsBltText}
use Rattle.input_text.specs.declared.input_stop.InputStop.{InputStop}
use Rattle.input_text.specs.declared.input_stop.InputStop.TheVariants.{Fault, NoMemory as WantsMemory}
use Rattle.tool_edge.specs.Refusals.{Refusals, fault_line, too_long}
use Rattle.tool_edge.specs.declared.end.End.{End}
use Rattle.tool_edge.specs.declared.end.End.TheVariants.{Done, BadInput, NoMemory}
use Rattle.tool_edge.specs.Finishing.{Finishes}
use Rattle.tool_edge.specs.Streams.{Writing, NothingWritten}
use Rattle.tool_edge.specs.Tool.{Tool, no_history}
use Rattle.day_lines.specs.DayText.{roll_with}
use Rattle.sheet_input.specs.declared.sheet_limit.TheConstants.{SHEET_LIMIT}
use Rattle.day_audit.specs.declared.audit_asked.AuditAsked.TheVariants.{Day as OfDay}
use Rattle.day_replay.specs.declared.day_verdict.DayVerdict.TheVariants.{False as NotTrueAt}
use Rattle.day_audit.specs.Audit.{verdict_line, IsRefusedAudit}
use Rattle.day_audit.specs.Input.{IsDaySplit}
use Rattle.day_audit.specs.DayFile.{IsDayFile, IsRefusedDayFile}
use Rattle.sheet_check.specs.TwoInputs.{TextTool}
use Rattle.tool_edge.specs.declared.opening.TheConstants.{DAY_LIMIT}
use Rattle.day_ballots.specs.declared.ballots_fault.BallotsFault.{BallotsFault}
use Rattle.day_ballots.specs.declared.ballots_fault.BallotsFault.TheVariants.{File, False, NoFreeze}
use Rattle.day_ballots.specs.Along.{IsAtFreeze, IsFalseCall, HasNoFreeze}
use Rattle.day_ballots.specs.Words.{TakesLine}

-- ---- at a line of a text

-- the canonical ballot file of the batches that stand after the first n calls, with the candidates withdrawn besides
-- that these calls strike
abbrev pub IsFileAfter : Day → List Entry → ℕ → (bytes : List ℕ) → Type 0
IsFileAfter day history n bytes =
    IsBltText (plain (standing_after history n)) (roll_with day.roll (struck_after history n)) bytes

-- the file of what is at the freeze of line n
abbrev pub IsFileAt : Day → (text : List ℕ) → (n : ℕ) → (bytes : List ℕ) → Type 0
IsFileAt day text n bytes = (history : List Entry) × IsAtFreeze day text n history × IsFileAfter day history n bytes

-- why there is none: a line up to the n-th is false, or line n is no freeze
abbrev pub IsNoneAt : Day → (text : List ℕ) → (n : ℕ) → BallotsFault → Type 0
IsNoneAt day text n (File fault) = ⊥
IsNoneAt day text n (False line) = (line ≤ n) × IsFalseCall day text line
IsNoneAt day text n (NoFreeze line) = (line ≡ n) × HasNoFreeze day text n

-- ---- refusals

-- A false line has the line of an audit's verdict.
abbrev pub refusal_line : BallotsFault → List ℕ
refusal_line (File fault) = fault_line fault
refusal_line (False line) = verdict_line OfDay (NotTrueAt line)
refusal_line (NoFreeze line) = codes "refused NoFreeze at " ++ decimal line ++ 10 ∷ []

abbrev pub ballots_refusals : Refusals BallotsFault
ballots_refusals = record { line = refusal_line; too_long = λ most. File (too_long most) }

-- ---- the input

-- The input is this text, and after it the file of this day.
pub record Says (input text : List ℕ) (day : Day) : Type 0 where
  pub file : List ℕ
  pub split : IsDaySplit input text file
  pub day_is : IsDayFile file day

-- It says a text that is lawful up to line n, and line n is a freeze.
abbrev pub HasFreezeAt : (n : ℕ) → (input : List ℕ) → Type 0
HasFreezeAt n input =
    (text : List ℕ) × (day : Day) × Says input text day × ((history : List Entry) × IsAtFreeze day text n history)

-- It is refused as an audit refuses it, or says a text with nothing to write at line n.
abbrev pub IsRefusedAt : (n : ℕ) → (input : List ℕ) → BallotsFault → Type 0
IsRefusedAt n input (File fault) = IsRefusedAudit input fault
IsRefusedAt n input fault = (text : List ℕ) × (day : Day) × Says input text day × IsNoneAt day text n fault

-- the file of what is at the freeze of line n of the input's text
pub record OwesBallots (n : ℕ) (input bytes : List ℕ) : Type 0 where
  pub text : List ℕ
  pub day : Day
  pub says : Says input text day
  pub history : List Entry
  pub at : IsAtFreeze day text n history
  pub file : IsFileAfter day history n bytes

-- The tool, which takes the number of a line.
abbrev pub exports_freezes : Tool ℕ (Unit {0}) BallotsFault
exports_freezes = record {
  Takes = TakesLine;
  limit = λ n. Some SHEET_LIMIT;
  Accepts = HasFreezeAt;
  Refuses = IsRefusedAt;
  refusals = ballots_refusals;
  Owes = λ n input history bytes. OwesBallots n input bytes;
  no_calls = no_history;
}

-- ---- over a text and a day file, each an input of its own

-- The file says a day, along which the text is lawful up to line n, and line n is a freeze.
abbrev pub HasFreezeOfTwo : (n : ℕ) → (text file : List ℕ) → Type 0
HasFreezeOfTwo n text file = (day : Day) × IsDayFile file day × ((history : List Entry) × IsAtFreeze day text n history)

-- The file is refused, or says a day of which the text has nothing to write at line n.
abbrev pub IsRefusedOfTwo : (n : ℕ) → (text file : List ℕ) → BallotsFault → Type 0
IsRefusedOfTwo n text file (File fault) = IsRefusedDayFile file fault
IsRefusedOfTwo n text file fault = (day : Day) × IsDayFile file day × IsNoneAt day text n fault

-- the file of what is at the freeze of line n of a whole text
pub record OwesBallotsOfTwo (n : ℕ) (text file bytes : List ℕ) : Type 0 where
  pub day : Day
  pub says : IsDayFile file day
  pub history : List Entry
  pub at : IsAtFreeze day text n history
  pub written : IsFileAfter day history n bytes

abbrev pub exports_two : TextTool ℕ BallotsFault
exports_two = record {
  Takes = TakesLine;
  text_limit = SHEET_LIMIT;
  file_limit = DAY_LIMIT;
  Accepts = HasFreezeOfTwo;
  Refuses = IsRefusedOfTwo;
  refusals = ballots_refusals;
  Owes = OwesBallotsOfTwo;
}

-- ---- parts of a run

-- A day file that was not read: its fault is the answer, or memory was wanted and nothing was written.
abbrev pub RefusesFile : InputStop → End BallotsFault → Writing → Type 0
RefusesFile (Fault fault) end sink = Finishes (BadInput (File fault)) (refusal_line (File fault)) end sink
RefusesFile WantsMemory end sink = (end ≡ NoMemory) × NothingWritten sink

-- what is owed at line n of a text, with the end of the run
abbrev pub IsOwedAtLine : Day → (text : List ℕ) → (n : ℕ) → End BallotsFault → (bytes : List ℕ) → Type 0
IsOwedAtLine day text n Done bytes = IsFileAt day text n bytes
IsOwedAtLine day text n (BadInput fault) bytes = IsNoneAt day text n fault × (bytes ≡ refusal_line fault)
IsOwedAtLine day text n due bytes = ⊥

-- the file of what stood, with the end of a run that is done
abbrev pub IsOwedFile : RollList → VersionState → End BallotsFault → (bytes : List ℕ) → Type 0
IsOwedFile roll version due bytes =
    (due ≡ Done) × IsBltText (all_ballots version.plans) (roll_with roll version.struck) bytes
