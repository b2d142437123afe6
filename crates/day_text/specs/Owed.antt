-- The text that is owed of a day file is read back, at the file's places.
use Rattle.std.specs.Prelude.{ℕ, List, Result}
use Rattle.batch_core.specs.declared.entry.Entry.{Entry}
use Rattle.day_lines.specs.DayText.{terms_of}
use Rattle.day_lines.specs.Owed.{OwesDay}
use Rattle.day_text.specs.declared.day_stop.DayStop.{DayStop}
use Rattle.day_text.specs.Values.{DayTextList}
use Rattle.day_text.specs.Form.{HasDayForm}
use Rattle.day_text.specs.Reading.{Reads, IsReadAs}
use Rattle.day_text.specs.Written.{SaysHistory}

-- Whatever text `day` owes of an input has the form, and it says the history and the counts of its freezes.
abbrev pub OwedTextsHaveTheForm : Type 0
OwedTextsHaveTheForm =
    (input : List ℕ) (history : List Entry) (text : List ℕ) (owed : OwesDay input history text)
    → (values : DayTextList) × HasDayForm owed.day.places text values × SaysHistory (terms_of owed.day) history values

-- So it is read back, each call, reply and count as it was.
abbrev pub OwedTextsAreReadBack : Type 0
OwedTextsAreReadBack =
    (input : List ℕ) (history : List Entry) (text : List ℕ) (result : Result DayTextList DayStop) (owed : OwesDay input history text)
    → Reads owed.day.places text result
    → (values : DayTextList) × SaysHistory (terms_of owed.day) history values × IsReadAs values result
