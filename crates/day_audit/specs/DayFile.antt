-- The day file after a text: it may be as long as it may be alone, and its faults have their places in the file.
use Rattle.std.specs.Prelude.{◌≡◌, ◌⊎◌, ℕ, ◌<◌, ◌≤◌, List, length, true}
use Rattle.input_text.specs.declared.input_fault.InputFault.{InputFault}
use Rattle.input_text.specs.Scan.{scan}
use Rattle.day_reader.specs.declared.day.Day.{Day}
use Rattle.day_reader.specs.Said.{IsDayRefusal}
use Rattle.tool_edge.specs.declared.opening.TheConstants.{DAY_LIMIT}
use Rattle.tool_edge.specs.Refusals.{too_long}
use Rattle.day_lines.specs.Owed.{SaysDay}

-- The file is no longer than a day file may be, and it says this day.
pub record IsDayFile (file : List ℕ) (day : Day) : Type 0 where
  pub short : length file ≤ DAY_LIMIT
  pub says : SaysDay file day

-- The file is longer, or it is refused as a day file.
abbrev pub IsRefusedDayFile : (file : List ℕ) → InputFault → Type 0
IsRefusedDayFile file fault =
    ((DAY_LIMIT < length file) × (fault ≡ too_long DAY_LIMIT))
    ⊎ ((length file ≤ DAY_LIMIT) × IsDayRefusal (scan file true) fault)
