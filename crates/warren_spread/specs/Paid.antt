-- What ballots pay by Warren's rule. Of how many units one vote is makes no difference to it.
use Rattle.std.specs.Prelude.{◌≡◌, ℕ, ◌+◌, ◌-◌, ◌*◌, ◌≤◌, ◌==◌, if◌then◌else◌, List, length, sum_by}
use Rattle.frozen_plan.specs.declared.plan_row.PlanRow.{PlanRow}
use Rattle.frozen_plan.specs.Forest.{ballots_of, rows_of, IsGrown, nodes_of}
use Rattle.meek_rule.specs.Rule.{Warren}
use Rattle.meek_rule.specs.Weights.{kept_under, given_under}

-- what ballots that have so much left each pay to candidate c together
abbrev pub paid : (prices : List ℕ) (rest : ℕ) → List (List ℕ) → (c : ℕ) → ℕ
paid prices rest ballots c = sum_by (λ ranking. given_under Warren 1 prices rest ranking c) ballots

-- the single ballots of such rows, each from the siblings' place on
abbrev pub row_ballots : List PlanRow → List (List ℕ)
row_ballots rows = ballots_of (nodes_of rows)

-- rows of siblings at some depth and of all below them, of n candidates
pub record AreSiblings (n : ℕ) (rows : List PlanRow) : Type 0 where
  pub depth : ℕ
  pub low : ℕ
  pub preorder : rows ≡ rows_of depth (nodes_of rows)
  pub grown : IsGrown n low depth (nodes_of rows)

-- Siblings parted: the first of them, the rows below it, and its next siblings with those below them.
pub record AreParted (n : ℕ) (rows : List PlanRow) (node : PlanRow) (below behind : List PlanRow) : Type 0 where
  pub some : 1 ≤ node.skip
  pub shorter : length below + length behind + 1 ≡ length rows
  pub candidate : 1 ≤ node.candidate
  pub known : node.candidate ≤ n
  pub below_are : AreSiblings n below
  pub behind_are : AreSiblings n behind
  pub pays :
      (prices : List ℕ) (rest c : ℕ)
      → paid prices rest (row_ballots rows) c
      ≡ node.ballots * (if node.candidate == c then kept_under Warren 1 prices rest node.candidate else 0)
      + paid prices (rest - kept_under Warren 1 prices rest node.candidate) (row_ballots below) c
      + paid prices rest (row_ballots behind) c
