-- A text with its file after it is cut between the two: no line within the text is taken for its end.
use Rattle.std.specs.Prelude.{ℕ, List, ◌++◌}
use Rattle.sheet_reader.specs.Form.{HasForm}
use Rattle.sheet_reader.specs.Values.{SheetList}
use Rattle.sheet_check.specs.Input.{IsSplit}
use Rattle.day_reader.specs.declared.day.Day.{Day}
use Rattle.day_replay.specs.declared.day_verdict.DayVerdict.TheVariants.{True}
use Rattle.day_replay.specs.Judged.{IsDayVerdict}
use Rattle.day_audit.specs.Input.{IsDaySplit}
use Rattle.day_audit.specs.DayFile.{IsDayFile}

-- Whatever has the form of a sheet, true or not, is cut off from any bytes after it.
abbrev pub SheetsAreSplit : Type 0
SheetsAreSplit =
    (places : ℕ) (sheet file : List ℕ) (values : SheetList) → HasForm places sheet values
    → IsSplit (sheet ++ file) sheet file

-- The true text of a day is cut off from the file of that day after it.
abbrev pub DaysAreSplit : Type 0
DaysAreSplit =
    (day : Day) (text file : List ℕ) → IsDayVerdict day text True → IsDayFile file day
    → IsDaySplit (text ++ file) text file
