-- What is owed for a ballot file.
use Rattle.std.specs.Prelude.{◌≡◌, ℕ, List, Some}
use Rattle.input_text.specs.declared.input_fault.InputFault.{InputFault}
use Rattle.blt_reader.specs.Poll.{Poll}
use Rattle.tool_edge.specs.declared.end.End.{End}
use Rattle.tool_edge.specs.declared.end.End.TheVariants.{Done}
use Rattle.tool_edge.specs.Contest.{SaysPoll}
use Rattle.tool_edge.specs.Tool.{Tool}
use Rattle.tool_edge.specs.Tools.{over_files}
use Rattle.sheet_input.specs.declared.sheet_limit.TheConstants.{SHEET_LIMIT}
use Rattle.ballot_findings.specs.Findings.{whole_text}

-- what was read of the file, and what of it wants a look
abbrev pub OwesLook : (input bytes : List ℕ) → Type 0
OwesLook input bytes = (poll : Poll) × SaysPoll input poll × (bytes ≡ whole_text input poll)

-- a tool that takes no words and a ballot file, and says what was read; a file may be as long as a sheet, longer than a
-- count reads
abbrev pub look_tool : Tool (Unit {0}) (Unit {0}) InputFault
look_tool = record (over_files OwesLook) { limit = λ asked. Some SHEET_LIMIT }

-- the end and the text for the file of this election
abbrev pub IsLookOf : (input : List ℕ) → Poll → End InputFault → (bytes : List ℕ) → Type 0
IsLookOf input poll due bytes = (due ≡ Done) × (bytes ≡ whole_text input poll)
