-- What the parts of a count come to.
use Rattle.std.specs.Prelude.{◌≡◌, ◌⊎◌, ℕ, List, Result, Ok, Err}
use Rattle.input_text.specs.declared.input_fault.InputFault.{InputFault}
use Rattle.tool_edge.specs.declared.end.End.{End}
use Rattle.tool_edge.specs.declared.end.End.TheVariants.{Done, NoMemory}
use Rattle.tool_edge.specs.Streams.{Writing, NothingWritten}
use Rattle.tool_edge.specs.Finishing.{Finishes, Closes}

-- the end after a text that was written, or for which memory was wanted
abbrev pub EndsAfter : {T E F : Type 0} → Result (Result T E) F → End InputFault → Writing → Type 0
EndsAfter (Ok wrote) end sink = Closes wrote end sink
EndsAfter (Err wants) end sink = (end ≡ NoMemory) × NothingWritten sink

-- what a run that writes a text like this came to: it was written, or memory was wanted before the first byte
abbrev pub WritesOwed : (IsText : List ℕ → Type 0) → End InputFault → Writing → Type 0
WritesOwed IsText end sink =
    ((end ≡ NoMemory) × NothingWritten sink) ⊎ ((text : List ℕ) × IsText text × Finishes Done text end sink)
