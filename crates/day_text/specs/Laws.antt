-- A text with the form of the text of a day says its values, at each number of places from 6 to 9.
use Rattle.std.specs.Prelude.{◌≡◌, ℕ, ◌≤◌, List, Result}
use Rattle.sheet_reader.specs.Form.{HasForm}
use Rattle.sheet_reader.specs.Values.{SheetList}
use Rattle.day_text.specs.declared.day_stop.DayStop.{DayStop}
use Rattle.day_text.specs.Values.{DayTextList}
use Rattle.day_text.specs.Form.{HasDayForm}
use Rattle.day_text.specs.Reading.{Reads, IsReadAs}

-- A text is that of one history and of one list of sheets at most.
abbrev pub DayFormSaysItsValues : Type 0
DayFormSaysItsValues =
    (places : ℕ) (bytes : List ℕ) (values others : DayTextList) → 6 ≤ places → places ≤ 9
    → HasDayForm places bytes values → HasDayForm places bytes others → values ≡ others

-- So the values that were written into a text are those that are read of it.
abbrev pub WrittenDaysAreRead : Type 0
WrittenDaysAreRead =
    (places : ℕ) (bytes : List ℕ) (values : DayTextList) (result : Result DayTextList DayStop) → 6 ≤ places → places ≤ 9
    → HasDayForm places bytes values → Reads places bytes result → IsReadAs values result

-- No text has both the form of a day and that of a sheet.
abbrev pub NoDayIsASheet : Type 0
NoDayIsASheet =
    (one other : ℕ) (bytes : List ℕ) (values : DayTextList) (sheet : SheetList)
    → HasDayForm one bytes values → HasForm other bytes sheet → ⊥
