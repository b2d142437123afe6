use Rattle.std.proofs.Common.{◌≡◌, ℕ, ◌+◌, ◌-◌, List, [], ◌∷◌, ◌++◌, length, arith, ap, ◌∙◌}
use Rattle.ranking_trie.specs.Siblings.{forest_of}
use Rattle.frozen_plan.specs.declared.plan_row.PlanRow.{PlanRow}
use Rattle.frozen_plan.specs.Shape.{shape_of}
use Rattle.frozen_plan.specs.Forest.{through, rows_of}
use Rattle.frozen_plan.proofs.RowsLemmas.{filled_row, rows_behind}
use Rattle.frozen_plan.proofs.rows.+rows.Goals as goal

pub push_node-returns-clause-rows : goal.push_node-returns-clause-rows
push_node-returns-clause-rows t c =
    let old = c.args.rows.now.items in
    let low = rows_of (c.args.depth + 1) (shape_of (forest_of c.args.inner)) in
    let now = c.push_forest.new.rows.items in
    let first : PlanRow = record { depth = c.args.depth; candidate = c.args.candidate; ballots = 0; skip = 0 } in
    let at = c.len-at.result in
    let place : at ≡ length old = omega (arith, c.args.rows.now.ok.0, c.len-at.ensures) in
    let is : now ≡ (old ++ first ∷ []) ++ low =
    c.in_ok-below.ensures.rows ∙ ap (λ (l : List PlanRow). l ++ low) c.in_ok-push.ensures.items in
    let skip : c.in_ok-skip.skip ≡ length low + 1 =
    c.in_ok-skip.ensures ∙ (ap (λ n. n - at) (omega (arith, c.push_forest.new.rows.ok.0, c.len.ensures))
    ∙ rows_behind old low now first at place is) in
    let below : c.in_ok-below.below ≡ through (shape_of (forest_of c.args.inner)) = c.in_ok-below.ensures.through in
    let row : PlanRow =
    record {
      depth = c.args.depth;
      candidate = c.args.candidate;
      ballots = c.args.ends + c.in_ok-below.below;
      skip = c.in_ok-skip.skip;
    } in
    filled_row old low now first row at place is
    ∙ ap (λ (r : PlanRow). old ++ r ∷ (low ++ []))
    (ap (λ (n : ℕ). record {
      depth = c.args.depth;
      candidate = c.args.candidate;
      ballots = c.args.ends + n;
      skip = c.in_ok-skip.skip;
    }) below
    ∙ ap (λ (n : ℕ). record {
      depth = c.args.depth;
      candidate = c.args.candidate;
      ballots = c.args.ends + through (shape_of (forest_of c.args.inner));
      skip = n;
    }) skip)
