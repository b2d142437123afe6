-- Rows of a forest, one node after another.
use Rattle.std.proofs.Common.{◌≡◌, ℕ, ◌+◌, ◌-◌, List, [], ◌∷◌, ◌++◌, length, set, arith, ap, sym, ◌∙◌, append_assoc}
use Rattle.std.proofs.lemmas.List.{append-nil, set_at, length-append}
use Rattle.frozen_plan.specs.declared.plan_row.PlanRow.{PlanRow}
use Rattle.frozen_plan.specs.Forest.{Forest, Bare, Grown}

-- how many nodes there are
abbrev pub node_count : Forest → ℕ
node_count Bare = 0
node_count (Grown c n inner next) = 1 + node_count inner + node_count next

-- a row that was put before others is filled
pub filled_row :
    (old low now : List PlanRow) (first row : PlanRow) (at : ℕ) → at ≡ length old
    → now ≡ (old ++ first ∷ []) ++ low → set now at row ≡ old ++ row ∷ (low ++ [])
filled_row old low now first row at place is =
    ap (λ (l : List PlanRow). set l at row) (is ∙ append_assoc old (first ∷ []) low)
    ∙ (set_at old first low row at (sym place) ∙ ap (λ (l : List PlanRow). old ++ row ∷ l) (sym (append-nil low)))

-- how many rows stand after the place
pub rows_behind :
    (old low now : List PlanRow) (first : PlanRow) (at : ℕ) → at ≡ length old
    → now ≡ (old ++ first ∷ []) ++ low → length now - at ≡ length low + 1
rows_behind old low now first at place is =
    let a = ap length is in
    let b = length-append (old ++ first ∷ []) low in
    let d = length-append old (first ∷ []) in
    omega arith
