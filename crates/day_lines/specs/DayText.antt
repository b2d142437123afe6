-- The text of a day: a line for each answered call, and then a sheet for each freeze.
use Rattle.std.specs.Prelude.{◌≡◌, ℕ, List, [], ◌∷◌, ◌++◌, map, filter, codes, decimal}
use Rattle.plain_ballots.specs.Ballots.{plain}
use Rattle.candidate_roll.specs.Roll.{RollList, marks_with}
use Rattle.sheet_text.specs.Lines.{ended}
use Rattle.sheet_text.specs.Sheet.{IsSheet}
use Rattle.batch_core.specs.declared.entry.Entry.{Entry}
use Rattle.batch_core.specs.Histories.{standing_after, struck_after}
use Rattle.day_reader.specs.declared.day.Day.{Day}
use Rattle.day_reader.specs.Call.{is_freeze}
use Rattle.day_lines.specs.EntryText.{numbered, entries_text}
use Rattle.day_lines.specs.declared.terms.Terms.{Terms}

-- ---- a history

-- the numbers of the freezes among the calls, from 1
abbrev pub freeze_places : List Entry → List ℕ
freeze_places history = map (λ e. e.0) (filter (λ e. is_freeze e.1.call) (numbered history))

-- ---- the sheets

-- how the sheets of a day are counted
abbrev pub terms_of : Day → Terms
terms_of day = record { places = day.places; omega = day.omega; roll = day.roll; lots = day.lots }

-- the roll in which these candidates are withdrawn too
abbrev pub roll_with : RollList → List ℕ → RollList
roll_with roll struck = record roll { withdrawn = marks_with roll.withdrawn struck }

-- the sheet over the single ballots of the batches that stand after the first n calls; the candidates that these calls
-- strike are withdrawn too
abbrev pub IsSheetAfter : Terms → List Entry → ℕ → List ℕ → Type 0
IsSheetAfter terms history n sheet =
    IsSheet terms.places terms.omega (plain (standing_after history n)) (roll_with terms.roll (struck_after history n))
    terms.lots sheet

-- the line that names the freeze of a sheet
abbrev pub sheet_line : ℕ → List ℕ
sheet_line n = codes "sheet " ++ decimal n

-- for each of these freezes its line and then its sheet
abbrev pub AreSheets : Terms → List Entry → List ℕ → List ℕ → Type 0
AreSheets terms history [] text = text ≡ []
AreSheets terms history (n ∷ places) text =
    (sheet : List ℕ) × (others : List ℕ)
    × IsSheetAfter terms history n sheet × AreSheets terms history places others
    × (text ≡ ended (sheet_line n) ++ (sheet ++ others))

-- The text of a day with this history: the lines of all answered calls, and then a sheet for each freeze.
abbrev pub IsDayText : Terms → List Entry → List ℕ → Type 0
IsDayText terms history text =
    (sheets : List ℕ) × AreSheets terms history (freeze_places history) sheets
    × (text ≡ entries_text history ++ sheets)
