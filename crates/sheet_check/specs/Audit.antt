-- What the checker accepts, refuses and writes.
use Rattle.std.specs.Prelude.{◌≡◌, ◌⊎◌, ℕ, ◌≤◌, List, [], ◌∷◌, ◌++◌, length, codes, decimal, Some}
use Rattle.check_words.specs.Asks.{Asks}
use Rattle.check_words.specs.declared.asked.Asked.{Asked}
use Rattle.plain_ballots.specs.Ballots.{plain}
use Rattle.tool_edge.specs.declared.opening.TheConstants.{FILE_LIMIT}
use Rattle.input_text.specs.declared.fault_kind.FaultKind.TheVariants.{Ended}
use Rattle.input_text.specs.declared.input_fault.InputFault.{InputFault}
use Rattle.blt_reader.specs.Poll.{Poll}
use Rattle.tool_edge.specs.declared.end.End.{End}
use Rattle.tool_edge.specs.declared.end.End.TheVariants.{Done}
use Rattle.tool_edge.specs.Refusals.{file_refusals}
use Rattle.tool_edge.specs.Contest.{SaysContest, IsRefusedContest}
use Rattle.tool_edge.specs.Tool.{Tool, no_history}
use Rattle.tool_edge.specs.Tools.{IsContestFile}
use Rattle.sheet_input.specs.declared.sheet_limit.TheConstants.{SHEET_LIMIT}
use Rattle.sheet_check.specs.declared.terms.Terms.{Terms}
use Rattle.sheet_check.specs.declared.verdict.Verdict.{Verdict}
use Rattle.sheet_check.specs.declared.verdict.Verdict.TheVariants.{True, False, Malformed}
use Rattle.sheet_check.specs.Judged.{IsVerdict}
use Rattle.sheet_check.specs.Input.{HasNoEnd, IsSplit}
use Rattle.sheet_check.specs.Behind.{IsShortContest, IsRefusedFileBehind}
use Rattle.sheet_check.specs.Terms.{terms_of}
use Rattle.sheet_check.specs.TwoInputs.{TextTool}

-- ---- what is accepted

-- The input is a sheet and a ballot file, and the lots are an order of the file's candidates.
abbrev pub IsAudit : (lots input : List ℕ) → Type 0
IsAudit lots input = (sheet : List ℕ) × (file : List ℕ) × IsSplit input sheet file × IsShortContest lots file

-- ---- what is refused

-- No line is `end`, so that the input has ended too early.
pub record EndsInSheet (input : List ℕ) (fault : InputFault) : Type 0 where
  pub no_end : HasNoEnd input
  pub fault_is : fault ≡ record { kind = Ended; at = length input }

-- No line is `end`, or what is after the first such line is refused.
abbrev pub IsRefusedAudit : (lots input : List ℕ) → InputFault → Type 0
IsRefusedAudit lots input fault =
    EndsInSheet input fault
    ⊎ ((sheet : List ℕ) × (file : List ℕ) × IsSplit input sheet file × IsRefusedFileBehind (length sheet) lots file fault)

-- ---- what is written

-- the line of a verdict
abbrev pub verdict_line : Verdict → List ℕ
verdict_line True = codes "sheet true" ++ 10 ∷ []
verdict_line (False n) = codes "sheet false at line " ++ decimal n ++ 10 ∷ []
verdict_line Malformed = codes "sheet malformed" ++ 10 ∷ []

-- the line of the verdict on a text that is held to be the sheet of this election by these terms
pub record OwesVerdict (poll : Poll) (terms : Terms) (sheet bytes : List ℕ) : Type 0 where
  pub verdict : Verdict
  pub right : IsVerdict terms (plain poll.lines) poll.roll sheet verdict
  pub line : bytes ≡ verdict_line verdict

-- that line, with the end of a run that is done
abbrev pub IsOwedVerdict : Poll → Terms → (sheet : List ℕ) → End InputFault → (bytes : List ℕ) → Type 0
IsOwedVerdict poll terms sheet due bytes = (due ≡ Done) × OwesVerdict poll terms sheet bytes

-- the verdict on the input's sheet by the input's file, as the words ask for it
pub record OwesAudit (asked : Asked) (input bytes : List ℕ) : Type 0 where
  pub sheet : List ℕ
  pub file : List ℕ
  pub split : IsSplit input sheet file
  pub short : length file ≤ FILE_LIMIT
  pub poll : Poll
  pub says : SaysContest asked.lots file poll
  pub verdict : OwesVerdict poll (terms_of asked) sheet bytes

-- ---- the tool

abbrev pub audits : Tool Asked (Unit {0}) InputFault
audits = record {
  Takes = Asks;
  limit = λ asked. Some SHEET_LIMIT;
  Accepts = λ asked. IsAudit asked.lots;
  Refuses = λ asked. IsRefusedAudit asked.lots;
  refusals = file_refusals;
  Owes = λ asked input history. OwesAudit asked input;
  no_calls = no_history;
}

-- ---- the tool over a sheet and a ballot file, each an input of its own

-- the verdict on a whole text by a whole file, as the words ask for it
pub record OwesVerdictOfTwo (asked : Asked) (sheet file bytes : List ℕ) : Type 0 where
  pub poll : Poll
  pub says : SaysContest asked.lots file poll
  pub verdict : OwesVerdict poll (terms_of asked) sheet bytes

abbrev pub audits_two : TextTool Asked InputFault
audits_two = record {
  Takes = Asks;
  text_limit = SHEET_LIMIT;
  file_limit = FILE_LIMIT;
  Accepts = λ asked sheet. IsContestFile asked.lots;
  Refuses = λ asked sheet. IsRefusedContest asked.lots;
  refusals = file_refusals;
  Owes = OwesVerdictOfTwo;
}
