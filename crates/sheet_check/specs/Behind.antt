-- A ballot file after a sheet: it has a limit of its own, and its faults stand at their places in the whole.
use Rattle.std.specs.Prelude.{◌≡◌, ◌⊎◌, ℕ, ◌<◌, ◌≤◌, List, length, Result, Ok, Err}
use Rattle.input_text.specs.declared.input_fault.InputFault.{InputFault}
use Rattle.input_text.specs.declared.input_stop.InputStop.{InputStop}
use Rattle.input_text.specs.declared.input_stop.InputStop.TheVariants.{Fault, NoMemory}
use Rattle.tool_edge.specs.declared.contest.Contest.{Contest}
use Rattle.tool_edge.specs.declared.opening.TheConstants.{FILE_LIMIT}
use Rattle.tool_edge.specs.Contest.{IsContest, IsRefusedBehind, behind}
use Rattle.tool_edge.specs.Refusals.{too_long}
use Rattle.tool_edge.specs.Tools.{IsContestFile}

-- The file is no longer than a ballot file may be, and the lots are an order of its candidates.
abbrev pub IsShortContest : (lots file : List ℕ) → Type 0
IsShortContest lots file = (length file ≤ FILE_LIMIT) × IsContestFile lots file

-- The file is longer, and the first byte too many is at fault.
abbrev pub IsTooLongBehind : (before : ℕ) → (file : List ℕ) → InputFault → Type 0
IsTooLongBehind before file fault = (FILE_LIMIT < length file) × (fault ≡ behind before (too_long FILE_LIMIT))

-- The file is too long, or it is refused, or else the lots.
abbrev pub IsRefusedFileBehind : (before : ℕ) → (lots file : List ℕ) → InputFault → Type 0
IsRefusedFileBehind before lots file fault =
    IsTooLongBehind before file fault ⊎ ((length file ≤ FILE_LIMIT) × IsRefusedBehind before lots file fault)

-- Ok is what the lots and the file say; a fault is why they are refused.
abbrev pub ReadsFileBehind : (before : ℕ) → (lots file : List ℕ) → Result Contest InputStop → Type 0
ReadsFileBehind before lots file (Ok contest) = (length file ≤ FILE_LIMIT) × IsContest lots file contest
ReadsFileBehind before lots file (Err (Fault fault)) = IsRefusedFileBehind before lots file fault
ReadsFileBehind before lots file (Err NoMemory) = Unit {0}
