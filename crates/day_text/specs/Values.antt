-- What the text of a day says: all calls with their replies, and the sheet of each freeze.
use Rattle.std.specs.Prelude.{ℕ, List, ◌++◌}
use Rattle.std.specs.List.{flat_map}
use Rattle.batch_core.specs.declared.entry.Entry.{Entry}
use Rattle.sheet_text.specs.Lines.{ended, text_of_lines}
use Rattle.sheet_reader.specs.Values.{SheetList, lines_of}
use Rattle.day_lines.specs.EntryText.{entries_text}
use Rattle.day_lines.specs.DayText.{sheet_line}

-- ---- values

-- the number of a freeze's line, and what the sheet of that freeze says
pub record FrozenSheet : Type 0 where
  pub freeze : ℕ
  pub values : SheetList

-- the answered calls in their order, without their ballots, and the sheets of the freezes
pub record DayTextList : Type 0 where
  pub history : List Entry
  pub sheets : List FrozenSheet

-- ---- the text

-- the line that names a freeze, and its sheet
abbrev pub sheet_text : (places : ℕ) → FrozenSheet → List ℕ
sheet_text places s = ended (sheet_line s.freeze) ++ text_of_lines (lines_of places s.values)

-- one such text after another
abbrev pub sheets_text : (places : ℕ) → List FrozenSheet → List ℕ
sheets_text places sheets = flat_map (sheet_text places) sheets

-- the lines of the calls, and then the sheets
abbrev pub day_text : (places : ℕ) → DayTextList → List ℕ
day_text places v = entries_text v.history ++ sheets_text places v.sheets
