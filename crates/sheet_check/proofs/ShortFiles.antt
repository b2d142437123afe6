-- A ballot file after a sheet that is no longer than a ballot file may be.
use Rattle.std.proofs.Common.{ℕ, ◌≤◌, List, length, inr, Ok, Err}
use Rattle.std.specs.Prelude.{Result}
use Rattle.input_text.specs.declared.input_stop.InputStop.{InputStop}
use Rattle.input_text.specs.declared.input_stop.InputStop.TheVariants.{Fault, NoMemory}
use Rattle.tool_edge.specs.declared.contest.Contest.{Contest}
use Rattle.tool_edge.specs.declared.opening.TheConstants.{FILE_LIMIT}
use Rattle.tool_edge.specs.Contest.{ReadsBehind}
use Rattle.sheet_check.specs.Behind.{ReadsFileBehind}

pub reads_short_file :
    (before : ℕ) (lots file : List ℕ) (result : Result Contest InputStop) → length file ≤ FILE_LIMIT
    → ReadsBehind before lots file result → ReadsFileBehind before lots file result
reads_short_file before lots file (Ok contest) short is = (short, is)
reads_short_file before lots file (Err (Fault fault)) short refused = inr (short, refused)
reads_short_file before lots file (Err NoMemory) short none = tt
