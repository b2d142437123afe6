-- The rows of a plan, and the ballots that they stand for.
use Rattle.std.specs.Prelude.{◌≡◌, ℕ, ◌+◌, ◌-◌, ◌≤◌, List, [], ◌∷◌, ◌++◌, length, drop, replicate, slice_index_or}
use Rattle.std.specs.List.{flat_map}
use Rattle.plain_ballots.specs.declared.limits.TheConstants.{MOST_BALLOTS, MOST_CANDIDATES}
use Rattle.frozen_plan.specs.declared.plan_row.PlanRow.{PlanRow}
use Rattle.frozen_plan.specs.Forest.{Forest, ballots_of, through, rows_of, IsGrown, read}

-- rows for ballots of so many candidates
pub record PlanRows : Type 0 where
  pub candidates : ℕ
  pub rows : List PlanRow

-- those below the root
abbrev pub nodes : List PlanRow → List PlanRow
nodes rows = drop 1 rows

-- the nodes that they say
abbrev pub forest_of : List PlanRow → Forest
forest_of rows = read (length rows) (nodes rows)

-- the number of all ballots: those of the root
abbrev pub ballot_count : List PlanRow → ℕ
ballot_count rows = (slice_index_or rows 0 (record { depth = 0; candidate = 0; ballots = 0; skip = 0 })).ballots

-- the single ballots: those without a candidate, and then the others in order
abbrev pub plan_ballots : List PlanRow → List (List ℕ)
plan_ballots rows = replicate (ballot_count rows - through (forest_of rows)) [] ++ ballots_of (forest_of rows)

-- the rows of a root at which so many ballots end, and of the nodes below it
abbrev pub plan_rows : (ends : ℕ) → Forest → List PlanRow
plan_rows ends f =
    record { depth = 0; candidate = 0; ballots = ends + through f; skip = length (rows_of 1 f) + 1 } ∷ rows_of 1 f

-- The root with all ballots, and then the nodes of a trie of n candidates in preorder.
pub record IsPlan (n : ℕ) (rows : List PlanRow) : Type 0 where
  pub few_candidates : n ≤ MOST_CANDIDATES
  pub preorder : rows ≡ plan_rows (ballot_count rows - through (forest_of rows)) (forest_of rows)
  pub grown : IsGrown n 0 1 (forest_of rows)
  pub few : ballot_count rows ≤ MOST_BALLOTS

-- the single ballots of some plans, plan by plan
abbrev pub all_ballots : List PlanRows → List (List ℕ)
all_ballots plans = flat_map (λ plan. plan_ballots plan.rows) plans
