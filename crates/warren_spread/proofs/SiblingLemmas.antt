-- Rows of siblings, node by node.
use Rattle.std.proofs.Common.{◌≡◌, ℕ, ◌+◌, ◌-◌, ◌≤◌, List, ◌++◌, length, get_or}
use Rattle.std.proofs.Common.{drop, take, arith, refl, ap, sym, subst, ◌∙◌}
use Rattle.std.proofs.lemmas.List.{length-append, take_at, drop_at}
use Rattle.frozen_plan.specs.declared.plan_row.PlanRow.{PlanRow}
use Rattle.frozen_plan.specs.Forest.{Forest, Bare, Grown, ballots_of, through, rows_of, IsGrown, nodes_of}
use Rattle.frozen_plan.specs.Plan.{forest_of, ballot_count, plan_ballots, IsPlan}
use Rattle.frozen_plan.proofs.ReadLemmas.{read-rows_of}
use Rattle.meek_rule.specs.Rule.{Warren}
use Rattle.meek_rule.specs.Weights.{kept_under}
use Rattle.warren_spread.specs.Paid.{paid, row_ballots, AreSiblings, AreParted}
use Rattle.warren_spread.proofs.PaidLemmas.{paid-grown, paid-ends}

-- the nodes that the rows of a forest say
nodes_are : (d : ℕ) (f : Forest) → nodes_of (rows_of d f) ≡ f
nodes_are d f = read-rows_of (length (rows_of d f)) d f (omega arith)

siblings_of : (n d low : ℕ) (f : Forest) → IsGrown n low d f → AreSiblings n (rows_of d f)
siblings_of n d low f grown = record {
  depth = d;
  low = low;
  preorder = sym (ap (rows_of d) (nodes_are d f));
  grown = subst (IsGrown n low d) (sym (nodes_are d f)) grown;
}

-- the rows below the first node, and those after them
abbrev pub IsCut : ℕ → List PlanRow → PlanRow → Type 0
IsCut n rows node =
    (node.skip ≤ length rows)
    × AreParted n rows node (take (node.skip - 1) (drop 1 rows)) (drop (node.skip - 1) (drop 1 rows))

parted_forest :
    (n d low : ℕ) (f : Forest) (e : PlanRow) → IsGrown n low d f → 1 ≤ length (rows_of d f)
    → IsCut n (rows_of d f) (get_or (rows_of d f) 0 e)
parted_forest n d low Bare e grown some = absurd (omega arith)
parted_forest n d low (Grown k m inner next) e grown some =
    let low_rows = rows_of (d + 1) inner in
    let rest_rows = rows_of d next in
    let skip : (length low_rows + 1) - 1 ≡ length low_rows = omega arith in
    let front : take ((length low_rows + 1) - 1) (low_rows ++ rest_rows) ≡ low_rows =
    ap (λ j. take j (low_rows ++ rest_rows)) skip ∙ take_at low_rows rest_rows (length low_rows) refl in
    let left : drop ((length low_rows + 1) - 1) (low_rows ++ rest_rows) ≡ rest_rows =
    ap (λ j. drop j (low_rows ++ rest_rows)) skip ∙ drop_at low_rows rest_rows (length low_rows) refl in
    let below : row_ballots (take ((length low_rows + 1) - 1) (low_rows ++ rest_rows)) ≡ ballots_of inner =
    ap row_ballots front ∙ ap ballots_of (nodes_are (d + 1) inner) in
    let behind : row_ballots (drop ((length low_rows + 1) - 1) (low_rows ++ rest_rows)) ≡ ballots_of next =
    ap row_ballots left ∙ ap ballots_of (nodes_are d next) in
    let all : row_ballots (rows_of d (Grown k m inner next)) ≡ ballots_of (Grown k m inner next) =
    ap ballots_of (nodes_are d (Grown k m inner next)) in (
      omega (arith, length-append low_rows rest_rows),
      record {
        some = omega arith;
        shorter = omega (arith, ap length front, ap length left, length-append low_rows rest_rows);
        candidate = omega (arith, grown.0);
        known = grown.1;
        below_are = subst (AreSiblings n) (sym front) (siblings_of n (d + 1) 0 inner grown.4);
        behind_are = subst (AreSiblings n) (sym left) (siblings_of n d k next grown.5);
        pays =
            λ prices rest c.
            let part = kept_under Warren 1 prices rest k in
            let one :
            paid prices (rest - part)
            (row_ballots (take ((length low_rows + 1) - 1) (low_rows ++ rest_rows))) c
            ≡ paid prices (rest - part) (ballots_of inner) c =
            ap (λ l. paid prices (rest - part) l c) below in
            let two :
            paid prices rest (row_ballots (drop ((length low_rows + 1) - 1) (low_rows ++ rest_rows))) c
            ≡ paid prices rest (ballots_of next) c =
            ap (λ l. paid prices rest l c) behind in
            let whole :
            paid prices rest (row_ballots (rows_of d (Grown k m inner next))) c
            ≡ paid prices rest (ballots_of (Grown k m inner next)) c =
            ap (λ l. paid prices rest l c) all in
            omega (arith, paid-grown prices rest c k m inner next);
      },
    )

pub cut : (n : ℕ) (rows : List PlanRow) (e : PlanRow) → AreSiblings n rows → 1 ≤ length rows → IsCut n rows (get_or rows 0 e)
cut n rows e are some =
    subst (λ (l : List PlanRow). IsCut n l (get_or l 0 e)) (sym are.preorder)
    (parted_forest n are.depth are.low (nodes_of rows) e are.grown (omega (arith, ap length are.preorder)))

-- the rows after the root of a plan
behind_root : (n : ℕ) (rows : List PlanRow) → IsPlan n rows → drop 1 rows ≡ rows_of 1 (forest_of rows)
behind_root n rows plan = ap (drop 1) plan.preorder

pub siblings_of_plan : (n : ℕ) (rows : List PlanRow) → IsPlan n rows → AreSiblings n (drop 1 rows)
siblings_of_plan n rows plan =
    subst (AreSiblings n) (sym (behind_root n rows plan)) (siblings_of n 1 0 (forest_of rows) plan.grown)

-- pay what the plan's ballots pay
pub paid-plan :
    (n : ℕ) (rows : List PlanRow) → IsPlan n rows → (rest c : ℕ) (prices : List ℕ)
    → paid prices rest (row_ballots (drop 1 rows)) c ≡ paid prices rest (plan_ballots rows) c
paid-plan n rows plan rest c prices =
    let f = forest_of rows in
    let same : row_ballots (drop 1 rows) ≡ ballots_of f =
    ap row_ballots (behind_root n rows plan) ∙ ap ballots_of (nodes_are 1 f) in
    ap (λ l. paid prices rest l c) same ∙ sym (paid-ends prices rest c (ballot_count rows - through f) (ballots_of f))
