-- What the auditor accepts, refuses and writes.
use Rattle.std.specs.Prelude.{◌≡◌, ◌⊎◌, ℕ, List, [], ◌∷◌, ◌++◌, length, codes, decimal, Some}
use Rattle.input_text.specs.declared.fault_kind.FaultKind.TheVariants.{Ended}
use Rattle.input_text.specs.declared.input_fault.InputFault.{InputFault}
use Rattle.day_reader.specs.declared.day.Day.{Day}
use Rattle.tool_edge.specs.Refusals.{file_refusals}
use Rattle.tool_edge.specs.declared.end.End.{End}
use Rattle.tool_edge.specs.declared.end.End.TheVariants.{Done}
use Rattle.tool_edge.specs.Tool.{Tool, no_history}
use Rattle.tool_edge.specs.Words.{TakesNothing}
use Rattle.tool_edge.specs.declared.opening.TheConstants.{DAY_LIMIT}
use Rattle.sheet_input.specs.declared.sheet_limit.TheConstants.{SHEET_LIMIT}
use Rattle.sheet_check.specs.TwoInputs.{TextTool}
use Rattle.day_audit.specs.declared.audit_asked.AuditAsked.{AuditAsked}
use Rattle.day_audit.specs.declared.audit_asked.AuditAsked.TheVariants as of
use Rattle.day_replay.specs.declared.day_verdict.DayVerdict.{DayVerdict}
use Rattle.day_replay.specs.declared.day_verdict.DayVerdict.TheVariants.{True, False}
use Rattle.day_replay.specs.Judged.{IsDayVerdict, IsTrialVerdict}
use Rattle.day_audit.specs.Words.{TakesAudit}
use Rattle.day_audit.specs.Input.{HasNoLastEnd, IsDaySplit}
use Rattle.day_audit.specs.DayFile.{IsDayFile, IsRefusedDayFile}

-- The input is a text and a day file.
abbrev pub IsAudit : (input : List ℕ) → Type 0
IsAudit input = (text : List ℕ) × (file : List ℕ) × IsDaySplit input text file × ((day : Day) × IsDayFile file day)

-- No line ends a text, so that the input has ended too early.
pub record EndsInText (input : List ℕ) (fault : InputFault) : Type 0 where
  pub no_end : HasNoLastEnd input
  pub fault_is : fault ≡ record { kind = Ended; at = length input }

-- Nothing ends a text, or the day file after it is refused.
abbrev pub IsRefusedAudit : (input : List ℕ) → InputFault → Type 0
IsRefusedAudit input fault =
    EndsInText input fault
    ⊎ ((text : List ℕ) × (file : List ℕ) × IsDaySplit input text file × IsRefusedDayFile file fault)

-- the line of a verdict on what was audited
abbrev pub subject : AuditAsked → List ℕ
subject of.Day = codes "day"
subject (of.Trial number) = codes "trial"

abbrev pub verdict_line : AuditAsked → DayVerdict → List ℕ
verdict_line asked True = subject asked ++ (codes " true" ++ 10 ∷ [])
verdict_line asked (False n) = subject asked ++ (codes " false at line " ++ (decimal n ++ 10 ∷ []))

-- the line of the verdict on the input's text by the day of the input's file
pub record OwesAudit (input bytes : List ℕ) : Type 0 where
  pub text : List ℕ
  pub file : List ℕ
  pub split : IsDaySplit input text file
  pub day : Day
  pub says : IsDayFile file day
  pub verdict : DayVerdict
  pub right : IsDayVerdict day text verdict
  pub line : bytes ≡ verdict_line of.Day verdict

-- the line of a verdict, with the end of a run that is done
abbrev pub IsOwedLine : AuditAsked → (DayVerdict → Type 0) → End InputFault → (bytes : List ℕ) → Type 0
IsOwedLine asked IsRight due bytes =
    (due ≡ Done) × ((verdict : DayVerdict) × IsRight verdict × (bytes ≡ verdict_line asked verdict))

-- ---- by what is asked

-- a text and a day file; or any text, which is then held to be a summary
abbrev pub Accepts : AuditAsked → (input : List ℕ) → Type 0
Accepts of.Day input = IsAudit input
Accepts (of.Trial number) input = Unit {0}

abbrev pub Refuses : AuditAsked → (input : List ℕ) → InputFault → Type 0
Refuses of.Day input fault = IsRefusedAudit input fault
Refuses (of.Trial number) input fault = ⊥

abbrev pub Owes : AuditAsked → (input bytes : List ℕ) → Type 0
Owes of.Day input bytes = OwesAudit input bytes
Owes (of.Trial number) input bytes =
    (verdict : DayVerdict) × IsTrialVerdict number input verdict × (bytes ≡ verdict_line (of.Trial number) verdict)

-- The tool.
abbrev pub audits_days : Tool AuditAsked (Unit {0}) InputFault
audits_days = record {
  Takes = TakesAudit;
  limit = λ asked. Some SHEET_LIMIT;
  Accepts = Accepts;
  Refuses = Refuses;
  refusals = file_refusals;
  Owes = λ asked input history. Owes asked input;
  no_calls = no_history;
}

-- ---- over a text and a day file, each an input of its own

-- the line of the verdict on a whole text by the day of a whole file
pub record OwesAuditOfTwo (text file bytes : List ℕ) : Type 0 where
  pub day : Day
  pub says : IsDayFile file day
  pub verdict : DayVerdict
  pub right : IsDayVerdict day text verdict
  pub line : bytes ≡ verdict_line of.Day verdict

abbrev pub audits_two : TextTool (Unit {0}) InputFault
audits_two = record {
  Takes = TakesNothing;
  text_limit = SHEET_LIMIT;
  file_limit = DAY_LIMIT;
  Accepts = λ asked text file. (day : Day) × IsDayFile file day;
  Refuses = λ asked text. IsRefusedDayFile;
  refusals = file_refusals;
  Owes = λ asked. OwesAuditOfTwo;
}
