-- Who has each rank of a row, as far as a ballot depends on it.
use Rattle.std.specs.Prelude.{◌≡◌, ◌<◌, ◌≤◌, ◌+◌, ℕ, List, [], ◌∷◌, length, Option, Some, None}
use Rattle.std.specs.List.{slice_index_or}
use Rattle.plain_ballots.specs.declared.limits.TheConstants.{MOST_CANDIDATES}
use Rattle.ballot_marks.specs.declared.says.Says.{Says}
use Rattle.ballot_marks.specs.declared.says.Says.TheVariants.{One as says_one, Over}
use Rattle.ballot_marks.specs.declared.why.Why.{Why}
use Rattle.ballot_marks.specs.declared.why.Why.TheVariants.{SkippedRank, EqualRank, Repeated}
use Rattle.ballot_table.specs.declared.held.Held.{Held}
use Rattle.ballot_table.specs.declared.held.Held.TheVariants.{Nobody, One, More}
use Rattle.ballot_table.specs.Rows.{holders}

-- one more candidate has the rank
abbrev pub with_holder : Held → ℕ → Held
with_holder Nobody c = One c
with_holder (One first) c = More first c
with_holder (More first second) c = More first second

-- what the rank says, if it isn't blank
abbrev pub says_held : Held → Option Says
says_held Nobody = None
says_held (One c) = Some (says_one c)
says_held (More first second) = Some Over

-- the candidate at whose cell the rank is refused
abbrev pub more_refused : Why → (first second : ℕ) → ℕ
more_refused EqualRank first second = second
more_refused SkippedRank first second = first
more_refused Repeated first second = first

abbrev pub held_refused : Why → Held → ℕ
held_refused why Nobody = 0
held_refused why (One c) = c
held_refused why (More first second) = more_refused why first second

-- the first two who have a rank
abbrev pub held_by : List ℕ → Held
held_by [] = Nobody
held_by (c ∷ []) = One c
held_by (c ∷ d ∷ others) = More c d

-- so many candidates, and who has each rank
pub record HolderList : Type 0 where
  pub candidates : ℕ
  pub held : List Held

-- Nobody has a rank after so many.
abbrev pub IsFreeFrom : ℕ → List Held → Type 0
IsFreeFrom used held = (k : ℕ) → used ≤ k → k < length held → slice_index_or held k Nobody ≡ Nobody

-- The candidates in number order have these ranks: whoever has each rank is held at it.
pub record IsHolding (ranks : List (Option ℕ)) (holders_are : HolderList) : Type 0 where
  pub candidates : holders_are.candidates ≡ length ranks
  pub size : length holders_are.held ≡ MOST_CANDIDATES
  pub each : (k : ℕ) → k < MOST_CANDIDATES → slice_index_or holders_are.held k Nobody ≡ held_by (holders (k + 1) ranks)
