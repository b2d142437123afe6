-- What is read of a text at a number of places.
use Rattle.std.specs.Prelude.{◌≡◌, ℕ, List, MatchResult, Result}
use Rattle.sheet_reader.specs.declared.sheet_stop.SheetStop.{SheetStop}
use Rattle.sheet_reader.specs.declared.sheet_stop.SheetStop.TheVariants.{NoMemory}
use Rattle.sheet_reader.specs.Form.{HasForm}
use Rattle.sheet_reader.specs.Refusal.{Stops}
use Rattle.sheet_reader.specs.Values.{SheetList}

-- Values are read of a text that is their sheet, and a malformed one is the sheet of no values.
abbrev pub Reads : (places : ℕ) → List ℕ → Result SheetList SheetStop → Type 0
Reads places bytes result =
    MatchResult result (λ values. HasForm places bytes values)
    (λ stop. Stops stop ((values : SheetList) → ¬ (HasForm places bytes values)))

-- just these values were read, or memory was wanted
abbrev pub IsReadAs : SheetList → Result SheetList SheetStop → Type 0
IsReadAs values result = MatchResult result (λ read. read ≡ values) (λ stop. stop ≡ NoMemory)
