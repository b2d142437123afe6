-- An election as it was announced.
use Rattle.std.specs.Prelude.{◌≡◌, ℕ, ◌+◌, ◌-◌, ◌≤◌, ◌==◌, ◌||◌, Bool, false, List, length, map, slice_index_or}
use Rattle.std.specs.List.{list_any, range_with_len}
use Rattle.plain_ballots.specs.declared.limits.TheConstants.{MOST_CANDIDATES}
use Rattle.candidate_roll.specs.declared.roll_stop.RollStop.{RollStop}
use Rattle.candidate_roll.specs.declared.roll_stop.RollStop.TheVariants.{BadCount, BadSeats, NoMemory}

-- the seats, the names of the candidates in the order of their numbers, the title, and who was withdrawn:
-- candidate c's mark is at place c - 1
pub record RollList : Type 0 where
  pub seats : ℕ
  pub names : List (List ℕ)
  pub title : List ℕ
  pub withdrawn : List Bool

-- 1 to 250 seats and candidates
pub record IsRoll (roll : RollList) : Type 0 where
  pub some_seat : 1 ≤ roll.seats
  pub few_seats : roll.seats ≤ MOST_CANDIDATES
  pub some_candidate : 1 ≤ length roll.names
  pub few_candidates : length roll.names ≤ MOST_CANDIDATES
  pub same_length : length roll.withdrawn ≡ length roll.names

-- whether candidate c was withdrawn
abbrev pub is_withdrawn : List Bool → ℕ → Bool
is_withdrawn withdrawn c = slice_index_or withdrawn (c - 1) false

-- whether candidate c is in a list of candidates
abbrev pub is_listed : List ℕ → ℕ → Bool
is_listed listed c = list_any (λ d. d == c) listed

-- the marks of n candidates of whom just the listed ones were withdrawn
abbrev pub withdrawn_marks : ℕ → List ℕ → List Bool
withdrawn_marks n listed = map (λ p. is_listed listed (p + 1)) (range_with_len 0 n)

-- the same marks, with the listed candidates withdrawn besides
abbrev pub marks_with : List Bool → List ℕ → List Bool
marks_with withdrawn listed =
    map (λ p. slice_index_or withdrawn p false || is_listed listed (p + 1)) (range_with_len 0 (length withdrawn))

-- as many as an election may have of candidates, and of seats
abbrev pub IsFew : ℕ → Type 0
IsFew n = (1 ≤ n) × (n ≤ MOST_CANDIDATES)

-- why so many seats and candidates make no roll; memory is wanted for a roll alone
abbrev pub IsRollStop : ℕ → ℕ → RollStop → Type 0
IsRollStop seats candidates BadCount = ¬ (IsFew candidates)
IsRollStop seats candidates BadSeats = IsFew candidates × (¬ (IsFew seats))
IsRollStop seats candidates NoMemory = IsFew candidates × IsFew seats
