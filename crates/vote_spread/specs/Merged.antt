-- Siblings of several plans that are packed together.
use Rattle.std.specs.Prelude.{◌≡◌, ℕ, ◌≤◌, ◌==◌, Bool, false, if◌then◌else◌, List, [], ◌∷◌, ◌++◌, All, ◌-◌, length, map, take, drop, slice_index_or}
use Rattle.std.specs.List.{flat_map}
use Rattle.plain_ballots.specs.declared.limits.TheConstants.{MOST_BALLOTS, MOST_CANDIDATES}
use Rattle.frozen_plan.specs.declared.plan_row.PlanRow.{PlanRow}
use Rattle.frozen_plan.specs.Forest.{ballots_of, IsGrown, nodes_of}
use Rattle.vote_spread.specs.Stem.{Stem}
use Rattle.vote_spread.specs.Packed.{StandFor, AreRows}

-- whether the first sibling is of candidate c
abbrev pub begins : (c : ℕ) → List PlanRow → Bool
begins c [] = false
begins c (row ∷ rows) = row.candidate == c

-- then the rows of it and of all below it
abbrev pub front : (c : ℕ) → List PlanRow → List (List PlanRow)
front c [] = []
front c (row ∷ rows) = if row.candidate == c then take row.skip (row ∷ rows) ∷ [] else []

-- and those after
abbrev pub behind : (c : ℕ) → List PlanRow → List PlanRow
behind c [] = []
behind c (row ∷ rows) = if row.candidate == c then drop row.skip (row ∷ rows) else row ∷ rows

-- how many ballots go through the first sibling
abbrev pub first_ballots : List PlanRow → ℕ
first_ballots [] = 0
first_ballots (row ∷ rows) = row.ballots

-- the single ballots that the rows of several plans stand for
abbrev pub part_ballots : List (List PlanRow) → List (List ℕ)
part_ballots parts = flat_map (λ rows. ballots_of (nodes_of rows)) parts

-- siblings at depth d of several plans, of no more ballots together than there may be
pub record AreParts (d : ℕ) (parts : List (List PlanRow)) : Type 0 where
  pub each : All (AreRows MOST_CANDIDATES d) parts
  pub few : length (part_ballots parts) ≤ MOST_BALLOTS

-- the one sibling of these rows is of candidate c
pub record IsAlone (c : ℕ) (rows : List PlanRow) : Type 0 where
  pub some : 1 ≤ length rows
  pub whole : (d : PlanRow) → (slice_index_or rows 0 d).skip ≡ length rows
  pub candidate : (d : PlanRow) → (slice_index_or rows 0 d).candidate ≡ c

-- all ballots of the node of these rows go on with the candidates of other rows
pub record GoesOnLike (other rows : List PlanRow) : Type 0 where
  pub to_the_end : (d : PlanRow) → (slice_index_or rows (length rows - 1) d).ballots ≡ (slice_index_or rows 0 d).ballots
  pub same : map (λ r. r.candidate) rows ≡ map (λ r. r.candidate) other

-- all ballots of several nodes go on alike
abbrev pub AreAlike : List (List PlanRow) → Type 0
AreAlike nodes = (d : List PlanRow) → All (GoesOnLike (slice_index_or nodes 0 d)) nodes

-- rows at depth d say nodes of n candidates
pub record AreOfAll (n d : ℕ) (rows : List PlanRow) : Type 0 where
  pub low : ℕ
  pub grown : IsGrown n low d (nodes_of rows)

-- stems for the ballots of all parts were added after others, whatever the number of candidates
pub record HasMerged (d : ℕ) (parts : List (List PlanRow)) (old new : List Stem) : Type 0 where
  pub added : List Stem
  pub is : new ≡ old ++ added
  pub stand : (n : ℕ) → All (AreOfAll n d) parts → StandFor n d added (part_ballots parts)
