-- What is said of a text that is held to be the sheet of an election.
use Rattle.std.specs.Prelude.{ℕ, ◌≤◌, List, Option, Some, None}
use Rattle.candidate_roll.specs.Roll.{RollList}
use Rattle.sheet_reader.specs.Values.{SheetList}
use Rattle.sheet_reader.specs.Form.{HasForm}
use Rattle.sheet_check.specs.declared.terms.Terms.{Terms}
use Rattle.sheet_check.specs.declared.verdict.Verdict.{Verdict}
use Rattle.sheet_check.specs.declared.verdict.Verdict.TheVariants.{True, False, Malformed}
use Rattle.sheet_check.specs.Comparison.{IsCompared}
use Rattle.sheet_check.specs.Terms.{IsSheetBy, places_of}

-- the text has the form of a sheet at so many places
abbrev pub IsForm : (places : ℕ) → (bytes : List ℕ) → Type 0
IsForm places bytes = (values : SheetList) × HasForm places bytes values

-- It has it at no number of places that a sheet may have.
abbrev pub IsMalformed : (bytes : List ℕ) → Type 0
IsMalformed bytes = (places : ℕ) → 6 ≤ places → places ≤ 9 → ¬ (IsForm places bytes)

-- It has it at one.
abbrev pub HasSomeForm : (bytes : List ℕ) → Type 0
HasSomeForm bytes = (places : ℕ) × (6 ≤ places) × (places ≤ 9) × IsForm places bytes

-- no first difference: the text is the sheet; else the first line in which it differs from the sheet
abbrev pub Compares : Terms → (places : ℕ) → List (List ℕ) → RollList → (bytes : List ℕ) → Option ℕ → Type 0
Compares terms places ballots roll = IsCompared (IsSheetBy terms places ballots roll)

-- the same of a text that has the form of a sheet at some number of places, compared at the places of the terms
abbrev pub ComparesForm : Terms → List (List ℕ) → RollList → (bytes : List ℕ) → Option ℕ → Type 0
ComparesForm terms ballots roll bytes found =
    HasSomeForm bytes × Compares terms (places_of terms.places) ballots roll bytes found

-- The verdict on a text: whether it has the form of a sheet at all, whether it is the sheet of this election by these
-- terms, and else in which line it first differs from it. A sheet of other places is another sheet.
abbrev pub IsVerdict : Terms → List (List ℕ) → RollList → (bytes : List ℕ) → Verdict → Type 0
IsVerdict terms ballots roll bytes Malformed = IsMalformed bytes
IsVerdict terms ballots roll bytes True = ComparesForm terms ballots roll bytes None
IsVerdict terms ballots roll bytes (False n) = ComparesForm terms ballots roll bytes (Some n)
