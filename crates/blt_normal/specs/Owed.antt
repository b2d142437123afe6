-- What is owed for a ballot file.
use Rattle.std.specs.Prelude.{ℕ, List}
use Rattle.plain_ballots.specs.Ballots.{plain}
use Rattle.input_text.specs.declared.input_fault.InputFault.{InputFault}
use Rattle.blt_reader.specs.Poll.{Poll}
use Rattle.blt_writer.specs.Text.{IsBltText}
use Rattle.tool_edge.specs.Contest.{SaysPoll}
use Rattle.tool_edge.specs.Tool.{Tool}
use Rattle.tool_edge.specs.Tools.{over_files}

-- the canonical text of the file's ballots under its roll
abbrev pub OwesText : (input bytes : List ℕ) → Type 0
OwesText input bytes = (poll : Poll) × SaysPoll input poll × IsBltText (plain poll.lines) poll.roll bytes

-- a tool that takes no words and a ballot file, and writes its canonical text
abbrev pub normal_tool : Tool (Unit {0}) (Unit {0}) InputFault
normal_tool = over_files OwesText
