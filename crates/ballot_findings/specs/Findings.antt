-- All that is said of a ballot file before it is counted.
use Rattle.std.specs.Prelude.{ℕ, List, ◌++◌, length}
use Rattle.blt_reader.specs.Poll.{Poll}
use Rattle.ballot_findings.specs.Breaks.{place_warnings}
use Rattle.ballot_findings.specs.Lines.{look_text}

-- what is said of an election, and after it what of the places in its file wants a look
abbrev pub whole_text : (input : List ℕ) → Poll → List ℕ
whole_text input poll = look_text input poll ++ place_warnings input (length poll.roll.names)
