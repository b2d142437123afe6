-- What is owed for a sheet, and for the text of a day.
use Rattle.std.specs.Prelude.{◌≡◌, ◌⊎◌, ℕ, List, Some}
use Rattle.sheet_input.specs.declared.sheet_fault.SheetFault.{SheetFault}
use Rattle.sheet_input.specs.declared.sheet_fault.SheetFault.TheVariants.{Malformed, TooLong}
use Rattle.sheet_input.specs.declared.sheet_limit.TheConstants.{SHEET_LIMIT}
use Rattle.sheet_input.specs.Sheets.{sheet_refusals}
use Rattle.tool_edge.specs.Tool.{Tool, no_history}
use Rattle.day_text.specs.Values.{DayTextList}
use Rattle.sheet_page.specs.declared.format.Format.{Format}
use Rattle.sheet_page.specs.declared.format.Format.TheVariants.{Html, Csv, MarkedCsv, Json, Text}
use Rattle.sheet_page.specs.Inputs.{IsMalformed, IsSheetText}
use Rattle.sheet_page.specs.Owed.{OwesShown}
use Rattle.sheet_page.specs.Words.{TakesFormat}
use Rattle.day_page.specs.DayCsv.{day_csv, marked_day_csv}
use Rattle.day_page.specs.DayHtml.{day_html}
use Rattle.day_page.specs.DayJson.{day_json}
use Rattle.day_page.specs.DayMinutes.{day_minutes}
use Rattle.day_page.specs.Inputs.{IsDay, IsDayAt}

-- what is written of a day's values
abbrev pub day_as : (places : ℕ) → Format → DayTextList → List ℕ
day_as places Html v = day_html places v
day_as places Csv v = day_csv v
day_as places MarkedCsv v = marked_day_csv v
day_as places Json v = day_json places v
day_as places Text v = day_minutes places v

-- What is written of a day: its values, with amounts of its own places.
abbrev pub OwesDay : Format → (input bytes : List ℕ) → Type 0
OwesDay format input bytes = (places : ℕ) × (v : DayTextList) × IsDayAt input places v × (bytes ≡ day_as places format v)

-- what is no sheet and no day, within the limit
abbrev pub IsRefusedPage : (input : List ℕ) → SheetFault → Type 0
IsRefusedPage input Malformed = IsMalformed input × ¬ IsDay input
IsRefusedPage input (TooLong most) = ⊥

-- ---- the tool

-- a tool that takes a format, and a sheet or a day
abbrev pub pages : Tool Format (Unit {0}) SheetFault
pages = record {
  Takes = TakesFormat;
  limit = λ format. Some SHEET_LIMIT;
  Accepts = λ format input. IsSheetText input ⊎ IsDay input;
  Refuses = λ format. IsRefusedPage;
  refusals = sheet_refusals;
  Owes = λ format input history bytes. OwesShown format input bytes ⊎ OwesDay format input bytes;
  no_calls = no_history;
}
