-- Which inputs are sheets, and how others are refused. 10 ends a line.
use Rattle.std.specs.Prelude.{ℕ, List, [], ◌∷◌, ◌++◌, codes}
use Rattle.sheet_reader.specs.Form.{HasForm}
use Rattle.sheet_reader.specs.Values.{SheetList}
use Rattle.tool_edge.specs.Refusals.{Refusals, fault_line, too_long}
use Rattle.sheet_input.specs.declared.sheet_fault.SheetFault.{SheetFault}
use Rattle.sheet_input.specs.declared.sheet_fault.SheetFault.TheVariants.{TooLong, Malformed}

-- Some values have this text as their sheet.
abbrev pub IsSheetText : (input : List ℕ) → Type 0
IsSheetText input = (v : SheetList) × HasForm 9 input v

-- No values have this text as their sheet.
abbrev pub IsMalformed : (input : List ℕ) → Type 0
IsMalformed input = (v : SheetList) → ¬ HasForm 9 input v

-- why a text within the limit is refused
abbrev pub IsRefusedSheet : (input : List ℕ) → SheetFault → Type 0
IsRefusedSheet input Malformed = IsMalformed input
IsRefusedSheet input (TooLong most) = ⊥

-- the line of an input that is no sheet
abbrev pub malformed_line : List ℕ
malformed_line = codes "sheet malformed" ++ 10 ∷ []

-- An input that is too long has the line of every tool.
abbrev pub refusal_line : SheetFault → List ℕ
refusal_line (TooLong most) = fault_line (too_long most)
refusal_line Malformed = malformed_line

abbrev pub sheet_refusals : Refusals SheetFault
sheet_refusals = record { line = refusal_line; too_long = λ most. TooLong most }
