-- What is owed for a sheet.
use Rattle.std.specs.Prelude.{◌≡◌, ℕ, List, Some}
use Rattle.sheet_input.specs.declared.sheet_limit.TheConstants.{SHEET_LIMIT}
use Rattle.sheet_reader.specs.Form.{HasForm}
use Rattle.sheet_reader.specs.Values.{SheetList}
use Rattle.tool_edge.specs.declared.end.End.{End}
use Rattle.tool_edge.specs.declared.end.End.TheVariants.{Done}
use Rattle.tool_edge.specs.Tool.{Tool, no_history}
use Rattle.tool_edge.specs.Words.{TakesNothing}
use Rattle.sheet_input.specs.declared.sheet_fault.SheetFault.{SheetFault}
use Rattle.sheet_input.specs.Sheets.{IsSheetText, IsRefusedSheet, sheet_refusals}
use Rattle.count_promise.specs.Lines.{promise_text}

-- what the sheet of these values promises
abbrev pub OwesPromise : (input bytes : List ℕ) → Type 0
OwesPromise input bytes = (v : SheetList) × HasForm 9 input v × (bytes ≡ promise_text v)

-- the end and the text for these values
abbrev pub IsPromised : SheetList → End SheetFault → (bytes : List ℕ) → Type 0
IsPromised v due bytes = (due ≡ Done) × (bytes ≡ promise_text v)

-- a tool that takes no words and a sheet
abbrev pub promises : Tool (Unit {0}) (Unit {0}) SheetFault
promises = record {
  Takes = TakesNothing;
  limit = λ asked. Some SHEET_LIMIT;
  Accepts = λ asked. IsSheetText;
  Refuses = λ asked. IsRefusedSheet;
  refusals = sheet_refusals;
  Owes = λ asked input history. OwesPromise input;
  no_calls = no_history;
}
