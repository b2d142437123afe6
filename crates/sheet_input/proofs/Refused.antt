-- An input is a sheet or refused, and has one fault.
use Rattle.std.proofs.Common.{◌≡◌, ℕ, List, refl}
use Rattle.sheet_input.specs.declared.sheet_fault.SheetFault.{SheetFault}
use Rattle.sheet_input.specs.declared.sheet_fault.SheetFault.TheVariants.{TooLong, Malformed}
use Rattle.sheet_input.specs.Sheets.{IsSheetText, IsRefusedSheet}

pub not_refused : (input : List ℕ) (fault : SheetFault) → IsSheetText input → IsRefusedSheet input fault → ⊥
not_refused input (TooLong most) sheet refused = refused
not_refused input Malformed sheet refused = refused sheet.0 sheet.1

pub refused_once :
    (input : List ℕ) (fault other : SheetFault) → IsRefusedSheet input fault → IsRefusedSheet input other
    → fault ≡ other
refused_once input (TooLong most) other refused again = absurd refused
refused_once input Malformed (TooLong most) refused again = absurd again
refused_once input Malformed Malformed refused again = refl
