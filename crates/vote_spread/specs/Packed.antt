-- The ballots that stems in preorder stand for.
use Rattle.std.specs.Prelude.{◌≡◌, ℕ, ◌+◌, ◌-◌, ◌<◌, ◌≤◌, List, ◌++◌, length, slice_index, sum, sum_by, All}
use Rattle.plain_ballots.specs.declared.limits.TheConstants.{MOST_BALLOTS, MOST_CANDIDATES}
use Rattle.frozen_plan.specs.declared.plan_row.PlanRow.{PlanRow}
use Rattle.frozen_plan.specs.Forest.{ballots_of, through, rows_of, IsGrown, nodes_of}
use Rattle.meek_rule.specs.Weights.{given}
use Rattle.vote_spread.specs.Stem.{Stem}
use Rattle.vote_spread.specs.Walk.{IsFrom, IsWalk}
use Rattle.vote_spread.specs.Gain.{gains}

-- Stems at depth d and below of n candidates. Before others at depth d they are a walk with these, and together they
-- give each candidate what the ballots give to it from the weight at which they are reached.
pub record StandFor (n d : ℕ) (stems : List Stem) (ballots : List (List ℕ)) : Type 0 where
  pub deep : All (λ stem. d ≤ stem.depth) stems
  pub from : (rest : List Stem) → IsFrom d rest → IsFrom d (stems ++ rest)
  pub walk : (rest : List Stem) → IsFrom d rest → IsWalk n d rest → IsWalk n d (stems ++ rest)
  pub gives :
      (s : ℕ) (keeps : List ℕ) (c : ℕ) (weights : List ℕ) (rest : List Stem)
      → IsFrom d rest → IsWalk n d rest → MOST_CANDIDATES < length weights
      → sum (gains s keeps c weights (stems ++ rest))
      ≡ sum_by (λ r. given s keeps (slice_index weights (d - 1)) r c) ballots + sum (gains s keeps c weights rest)

-- rows of siblings at depth d of n candidates, and of the nodes below them
pub record AreRows (n d : ℕ) (rows : List PlanRow) : Type 0 where
  pub preorder : rows ≡ rows_of d (nodes_of rows)
  pub low : ℕ
  pub grown : IsGrown n low d (nodes_of rows)
  pub few : through (nodes_of rows) ≤ MOST_BALLOTS

-- stems for the ballots of rows at depth d were added after others, whatever the number of candidates
pub record HasAdded (d : ℕ) (rows : List PlanRow) (old new : List Stem) : Type 0 where
  pub added : List Stem
  pub is : new ≡ old ++ added
  pub stand : (n low : ℕ) → IsGrown n low d (nodes_of rows) → StandFor n d added (ballots_of (nodes_of rows))
