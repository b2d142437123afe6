-- Which texts have the form of the text of a day.
use Rattle.std.specs.Prelude.{◌≡◌, ℕ, List, All, map}
use Rattle.sheet_reader.specs.Form.{IsPrintable}
use Rattle.day_lines.specs.DayText.{freeze_places}
use Rattle.day_lines.specs.DayHistory.{EndsWithTheClerk}
use Rattle.day_text.specs.Said.{IsSaidEntry}
use Rattle.day_text.specs.Values.{FrozenSheet, DayTextList, day_text}

-- the sheet's values are within their ranges
abbrev pub IsPrintableSheet : (places : ℕ) → FrozenSheet → Type 0
IsPrintableSheet places s = IsPrintable places s.values

-- the numbers of the lines of freezes that have a sheet
abbrev pub sheet_places : List FrozenSheet → List ℕ
sheet_places sheets = map (λ s. s.freeze) sheets

-- The bytes are the text of these values: the calls end with the clerk's freeze, and each freeze has its sheet.
pub record HasDayForm (places : ℕ) (bytes : List ℕ) (v : DayTextList) : Type 0 where
  pub calls : All IsSaidEntry v.history
  pub ends : EndsWithTheClerk v.history
  pub freezes : sheet_places v.sheets ≡ freeze_places v.history
  pub sheets : All (IsPrintableSheet places) v.sheets
  pub text : bytes ≡ day_text places v
