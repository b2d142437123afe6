-- The lines at the rows of a plan, in preorder: one for each row, also where no ballot ends.
use Rattle.std.specs.Prelude.{◌≡◌, ℕ, ◌+◌, ◌-◌, ◌≤◌, List, [], ◌∷◌, length, take, drop, All, ⊤}
use Rattle.std.specs.List.{slice_set}
use Rattle.plain_ballots.specs.declared.limits.TheConstants.{MOST_CANDIDATES}
use Rattle.frozen_plan.specs.declared.plan_row.PlanRow.{PlanRow}
use Rattle.frozen_plan.specs.Forest.{through, rows_of, nodes_of}
use Rattle.plain_ballots.specs.declared.ballot_line.BallotLine.{BallotLine}

-- the rows of the nodes below a row
abbrev pub below : PlanRow → (behind : List PlanRow) → List PlanRow
below row behind = take (row.skip - 1) behind

-- how many ballots end at a row
abbrev pub ends_at : PlanRow → (behind : List PlanRow) → ℕ
ends_at row behind = row.ballots - through (nodes_of (below row behind))

-- the candidates that lead to a row, where the path leads to the row before it
abbrev pub led : (path : List ℕ) → PlanRow → List ℕ
led path row = slice_set path (row.depth - 1) row.candidate

-- the same where there may be no further row
abbrev pub led_to : (path : List ℕ) → List PlanRow → List ℕ
led_to path [] = path
led_to path (row ∷ behind) = led path row

-- the line of a row to which the path leads
abbrev pub line_at : (path : List ℕ) → PlanRow → (behind : List PlanRow) → BallotLine
line_at path row behind = record { count = ends_at row behind; ranking = take row.depth path }

-- the lines of rows, where the path leads to the row before them
abbrev pub lines_behind : (path : List ℕ) → List PlanRow → List BallotLine
lines_behind path [] = []
lines_behind path (row ∷ behind) = line_at (led path row) row behind ∷ lines_behind (led path row) behind

-- the lines of rows, where the path leads to the first of them
abbrev pub lines_from : (path : List ℕ) → List PlanRow → List BallotLine
lines_from path [] = []
lines_from path (row ∷ behind) = line_at path row behind ∷ lines_behind path behind

-- a row with the rows of all nodes below it right after
pub record IsNode (row : PlanRow) (behind : List PlanRow) : Type 0 where
  pub some : 1 ≤ row.skip
  pub inside : row.skip ≤ length behind + 1
  pub below_are : below row behind ≡ rows_of (row.depth + 1) (nodes_of (below row behind))
  pub enough : through (nodes_of (below row behind)) ≤ row.ballots
  pub deep : row.depth ≤ MOST_CANDIDATES

abbrev pub AreNodes : List PlanRow → Type 0
AreNodes [] = ⊤
AreNodes (row ∷ behind) = IsNode row behind × AreNodes behind

-- rows of a plan from some row on: the root can only be the first of them
pub record IsRest (rows : List PlanRow) : Type 0 where
  pub nodes : AreNodes rows
  pub below_root : All (λ row. 1 ≤ row.depth) (drop 1 rows)
