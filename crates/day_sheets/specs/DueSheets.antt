-- Sheets that are due: what is still to be counted and written.
use Rattle.std.specs.Prelude.{◌≡◌, ℕ, List, [], ◌∷◌, ◌++◌}
use Rattle.batch_core.specs.declared.entry.Entry.{Entry}
use Rattle.sheet_text.specs.Lines.{ended}
use Rattle.lane_sheet.specs.Due.{CountDue, IsSheetDue}
use Rattle.day_lines.specs.EntryText.{entries_text}
use Rattle.day_lines.specs.DayText.{sheet_line}

-- the number of a freeze among the calls, and what is counted for it
pub record SheetDue : Type 0 where
  pub at : ℕ
  pub due : CountDue

-- the sheets of the freezes at these places, each with its own count
abbrev pub sheets_at : List ℕ → List CountDue → List SheetDue
sheets_at [] dues = []
sheets_at (at ∷ places) [] = []
sheets_at (at ∷ places) (due ∷ dues) = record { at = at; due = due } ∷ sheets_at places dues

-- its line, and then the sheet
abbrev pub IsDueText : (places : ℕ) → SheetDue → List ℕ → Type 0
IsDueText places sheet text =
    (own : List ℕ) × IsSheetDue places sheet.due own × (text ≡ ended (sheet_line sheet.at) ++ own)

-- one after another
abbrev pub AreDueTexts : (places : ℕ) → List SheetDue → List ℕ → Type 0
AreDueTexts places [] text = text ≡ []
AreDueTexts places (sheet ∷ sheets) text =
    (first : List ℕ) × (others : List ℕ)
    × IsDueText places sheet first × AreDueTexts places sheets others × (text ≡ first ++ others)

-- the lines of these answered calls, and then the sheets of these places
abbrev pub IsDayTextOf : (places : ℕ) → List Entry → List ℕ → List CountDue → List ℕ → Type 0
IsDayTextOf places history freezes dues text =
    (sheets : List ℕ) × AreDueTexts places (sheets_at freezes dues) sheets × (text ≡ entries_text history ++ sheets)
