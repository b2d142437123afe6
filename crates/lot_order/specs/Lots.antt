-- An order of all candidates, by which ties are broken.
use Rattle.std.specs.Prelude.{◌≡◌, ◌≢◌, ℕ, ◌+◌, ◌-◌, ◌<◌, ◌≤◌, ◌==◌, Bool, true, false, if◌then◌else◌, List, [], ◌∷◌, length, take, slice_index, count_by, All, AllPairs, Contains}
use Rattle.std.specs.List.{position_or_len}
use Rattle.plain_ballots.specs.declared.limits.TheConstants.{MOST_CANDIDATES}
use Rattle.lot_order.specs.Flags.{mark_at}
use Rattle.lot_order.specs.declared.lots_stop.LotsStop.{LotsStop}
use Rattle.lot_order.specs.declared.lots_stop.LotsStop.TheVariants.{NotAll, Twice, OutOfRange, NoMemory}

-- each candidate is in the order just once, and nobody else does
pub record IsOrder (order : List ℕ) : Type 0 where
  pub few : length order ≤ MOST_CANDIDATES
  pub candidates : (i : ℕ) → i < length order → (1 ≤ slice_index order i) × (slice_index order i ≤ length order)
  pub different : (i j : ℕ) → i < length order → j < length order → slice_index order i ≡ slice_index order j → i ≡ j
  pub whole : (c : ℕ) → 1 ≤ c → c ≤ length order → Contains order c

-- the first candidate of the order that is marked
abbrev pub first_marked : List ℕ → List Bool → ℕ
first_marked [] marks = 0
first_marked (c ∷ order) marks = if mark_at marks (c - 1) then c else first_marked order marks

-- the place of a candidate in the order, from 0
abbrev pub place_in : List ℕ → ℕ → ℕ
place_in order c = position_or_len (λ d. d == c) order

-- different candidates from 1 to n, maybe not all
pub record AreLots (n : ℕ) (order : List ℕ) : Type 0 where
  pub numbers : All (λ c. (1 ≤ c) × (c ≤ n)) order
  pub different : AllPairs (λ a b. a ≢ b) order

-- the number that is at a place from 1
abbrev pub number_at : List ℕ → ℕ → ℕ
number_at order place = slice_index order (place - 1)

-- the numbers before a place from 1
abbrev pub before : List ℕ → ℕ → List ℕ
before order place = take (place - 1) order

-- different candidates stand before this place from 1, and no candidate's number at it
pub record IsOutOfRangeAt (n : ℕ) (order : List ℕ) (place : ℕ) : Type 0 where
  pub from_one : 1 ≤ place
  pub inside : place ≤ length order
  pub sound_before : AreLots n (before order place)
  pub no_candidate : ¬ ((1 ≤ number_at order place) × (number_at order place ≤ n))

-- different candidates stand before this place from 1, and one of them again at it
pub record IsTwiceAt (n : ℕ) (order : List ℕ) (place : ℕ) : Type 0 where
  pub from_one : 1 ≤ place
  pub inside : place ≤ length order
  pub sound_before : AreLots n (before order place)
  pub stood_before : Contains (before order place) (number_at order place)

-- different candidates stand in the order, and of those who don't this is the least
pub record IsFirstMissing (n : ℕ) (order : List ℕ) (c : ℕ) : Type 0 where
  pub sound : AreLots n order
  pub candidate : (1 ≤ c) × (c ≤ n)
  pub missing : ¬ (Contains order c)
  pub lesser : (d : ℕ) → 1 ≤ d → d < c → Contains order d

-- why an order isn't one of n candidates; memory is wanted for such an order alone
abbrev pub IsLotsStop : ℕ → List ℕ → LotsStop → Type 0
IsLotsStop n order (NotAll c) = IsFirstMissing n order c
IsLotsStop n order (Twice place) = IsTwiceAt n order place
IsLotsStop n order (OutOfRange place) = IsOutOfRangeAt n order place
IsLotsStop n order NoMemory = IsOrder order × (length order ≡ n)

-- the marks are those of the candidates in the order, one mark for each place
pub record Sees (marks : List Bool) (order : List ℕ) : Type 0 where
  pub marked : (p : ℕ) → p < length marks → mark_at marks p ≡ true → Contains order (p + 1)
  pub unmarked : (p : ℕ) → p < length marks → mark_at marks p ≡ false → ¬ (Contains order (p + 1))
  pub as_many : count_by (λ mark. mark) marks ≡ length order

-- the least candidate that has no mark
pub record IsFirstUnmarked (marks : List Bool) (c : ℕ) : Type 0 where
  pub candidate : (1 ≤ c) × (c ≤ length marks)
  pub unmarked : mark_at marks (c - 1) ≡ false
  pub lesser : (p : ℕ) → p < c - 1 → mark_at marks p ≡ true
