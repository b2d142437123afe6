-- Exit statuses.
use Rattle.std.specs.Prelude.{ℕ}
use Rattle.tool_edge.specs.declared.end.End.{End}
use Rattle.tool_edge.specs.declared.end.End.TheVariants.{Done, SourceFault, BadWords, BadInput, SinkFault, NoMemory}

-- the number that the program ends with
abbrev pub code_of : {F : Type 0} → End F → ℕ
code_of Done = 0
code_of SourceFault = 1
code_of BadWords = 2
code_of (BadInput fault) = 3
code_of SinkFault = 4
code_of NoMemory = 5
