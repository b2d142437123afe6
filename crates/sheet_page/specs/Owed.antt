-- What is owed for a sheet.
use Rattle.std.specs.Prelude.{◌≡◌, ℕ, List, Some}
use Rattle.sheet_input.specs.declared.sheet_limit.TheConstants.{SHEET_LIMIT}
use Rattle.sheet_reader.specs.Values.{SheetList}
use Rattle.tool_edge.specs.Tool.{Tool, no_history}
use Rattle.sheet_input.specs.declared.sheet_fault.SheetFault.{SheetFault}
use Rattle.sheet_input.specs.Sheets.{sheet_refusals}
use Rattle.sheet_minutes.specs.Minutes.{minutes_text}
use Rattle.sheet_page.specs.declared.format.Format.{Format}
use Rattle.sheet_page.specs.declared.format.Format.TheVariants.{Html, Csv, MarkedCsv, Json, Text}
use Rattle.sheet_page.specs.Inputs.{IsSheetAt, IsSheetText, IsRefusedSheet}
use Rattle.sheet_page.specs.Words.{TakesFormat}
use Rattle.sheet_page.specs.Csv.{csv_of, marked_csv_of}
use Rattle.sheet_page.specs.Json.{json_of}
use Rattle.sheet_page.specs.Html.{html_of}

-- what is written of a sheet's values
abbrev pub shown_as : (places : ℕ) → Format → SheetList → List ℕ
shown_as places Html v = html_of places v
shown_as places Csv v = csv_of places v
shown_as places MarkedCsv v = marked_csv_of places v
shown_as places Json v = json_of places v
shown_as places Text v = minutes_text places v

-- What is written of a sheet: its values, with amounts of its own places.
abbrev pub OwesShown : Format → (input bytes : List ℕ) → Type 0
OwesShown format input bytes = (places : ℕ) × (v : SheetList) × IsSheetAt input places v × (bytes ≡ shown_as places format v)

-- ---- the tool

-- a tool that takes a format and a sheet
abbrev pub shows : Tool Format (Unit {0}) SheetFault
shows = record {
  Takes = TakesFormat;
  limit = λ format. Some SHEET_LIMIT;
  Accepts = λ format. IsSheetText;
  Refuses = λ format. IsRefusedSheet;
  refusals = sheet_refusals;
  Owes = λ format input history. OwesShown format input;
  no_calls = no_history;
}
