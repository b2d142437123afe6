-- Counts that are due, and what is written of them.
use Rattle.std.specs.Prelude.{◌≡◌, ℕ, List, [], ◌∷◌, Option, Result, Ok, Err}
use Rattle.candidate_roll.specs.Roll.{RollList}
use Rattle.meek_count.specs.Progress.{Progress}
use Rattle.sheet_text.specs.Sheet.{IsSheet}
use Rattle.piece_text.specs.Writing.{Writes}

-- what is counted: single ballots by a roll, lots and an omega
pub record CountDue : Type 0 where
  pub omega : ℕ
  pub ballots : List (List ℕ)
  pub roll : RollList
  pub lots : List ℕ

-- what is counted by a count that was just begun
abbrev pub due_in : Progress → CountDue
due_in count = record { omega = count.situation.omega; ballots = count.ballots; roll = count.roll; lots = count.lots }

-- the count of these single ballots by this roll
abbrev pub due_of : (omega : ℕ) → (lots : List ℕ) → RollList → (ballots : List (List ℕ)) → CountDue
due_of omega lots roll ballots = record { omega = omega; ballots = ballots; roll = roll; lots = lots }

-- the counts by these rolls, each of its own ballots
abbrev pub dues_of : (omega : ℕ) → (lots : List ℕ) → List RollList → List (List (List ℕ)) → List CountDue
dues_of omega lots [] ballots = []
dues_of omega lots (roll ∷ rolls) [] = []
dues_of omega lots (roll ∷ rolls) (own ∷ ballots) = due_of omega lots roll own ∷ dues_of omega lots rolls ballots

-- the text is the sheet that is due, at so many places
abbrev pub IsSheetDue : (places : ℕ) → CountDue → List ℕ → Type 0
IsSheetDue places due sheet = IsSheet places due.omega due.ballots due.roll due.lots sheet

abbrev pub HasSheet : (places : ℕ) → CountDue → Type 0
HasSheet places due = (sheet : List ℕ) × IsSheetDue places due sheet

-- These are the sheets' texts, and this is the only sheet.
abbrev pub IsOneSheet : (places : ℕ) → List CountDue → List ℕ → Type 0
IsOneSheet places dues sheet = (due : CountDue) × (dues ≡ due ∷ []) × IsSheetDue places due sheet

-- a text like this was written, or a front of it and a fault was counted
abbrev pub WritesSome : {S T E : Type 0} → (List ℕ → Type 0) → (S → Option (List ℕ)) → (S → ℕ) → S → S → Result T E → Type 0
WritesSome IsText written faults old new wrote = (text : List ℕ) × IsText text × Writes written faults old new text wrote

-- The same, or memory was wanted, and the sink was left as it was.
abbrev pub WritesOrWants : {S T E F : Type 0} → (List ℕ → Type 0) → (S → Option (List ℕ)) → (S → ℕ) → S → S → Result (Result T E) F → Type 0
WritesOrWants IsText written faults old new (Ok wrote) = WritesSome IsText written faults old new wrote
WritesOrWants IsText written faults old new (Err wants) = new ≡ old
