-- Which inputs are sheets of some number of places, and of which.
use Rattle.std.specs.Prelude.{ℕ, ◌<◌, ◌≤◌, List}
use Rattle.sheet_reader.specs.Form.{HasForm}
use Rattle.sheet_reader.specs.Values.{SheetList}
use Rattle.sheet_input.specs.declared.sheet_fault.SheetFault.{SheetFault}
use Rattle.sheet_input.specs.declared.sheet_fault.SheetFault.TheVariants.{TooLong, Malformed}

-- These values have this text as their sheet at its own places: the greatest number from 6 to 9 at which the text is a sheet. A
-- sheet with an iteration is one at a single number of places; one without any is a sheet at each, and is taken at nine.
pub record IsSheetAt (input : List ℕ) (places : ℕ) (v : SheetList) : Type 0 where
  pub from : 6 ≤ places
  pub to : places ≤ 9
  pub form : HasForm places input v
  pub greatest : (other : ℕ) (w : SheetList) → places < other → other ≤ 9 → ¬ HasForm other input w

-- No values have this text as their sheet at more places than these.
abbrev pub HasNoneAbove : (places : ℕ) → (input : List ℕ) → Type 0
HasNoneAbove places input = (other : ℕ) (w : SheetList) → places < other → other ≤ 9 → ¬ HasForm other input w

-- Some values have this text as their sheet, at some number of places.
abbrev pub IsSheetText : (input : List ℕ) → Type 0
IsSheetText input = (places : ℕ) × (v : SheetList) × IsSheetAt input places v

-- No values have this text as their sheet, at whatever number of places.
abbrev pub IsMalformed : (input : List ℕ) → Type 0
IsMalformed input = (places : ℕ) (v : SheetList) → 6 ≤ places → places ≤ 9 → ¬ HasForm places input v

-- why a text within the limit is refused
abbrev pub IsRefusedSheet : (input : List ℕ) → SheetFault → Type 0
IsRefusedSheet input Malformed = IsMalformed input
IsRefusedSheet input (TooLong most) = ⊥
