use Rattle.std.proofs.Common.{◌≡◌, ℕ, ◌+◌, ◌*◌, ◌≤◌, ◌++◌}
use Rattle.ranking_trie.specs.Siblings.{forest_of}
use Rattle.frozen_plan.specs.Shape.{shape_of}
use Rattle.frozen_plan.specs.Forest.{through, rows_of, IsGrown}
use Rattle.frozen_plan.proofs.RowsLemmas.{node_count}
use Rattle.frozen_plan.proofs.rows.+rows.Given as goal

abbrev pub invariant-push_forest-loop-node : goal.invariant-push_forest-loop-node
invariant-push_forest-loop-node l = record {
  rows : l.rows.items ++ rows_of l.depth (shape_of (forest_of l.rest)) ≡ l.fn.rows.items ++ rows_of l.depth (shape_of (forest_of l.fn.forest));
  through : l.total + through (shape_of (forest_of l.rest)) ≡ through (shape_of (forest_of l.fn.forest));
  grown : (low : ℕ) × IsGrown 250 low l.depth (shape_of (forest_of l.rest));
  nodes : node_count (shape_of (forest_of l.rest)) ≤ node_count (shape_of (forest_of l.fn.forest));
}

abbrev pub decreases-push_forest-loop-node : goal.decreases-push_forest-loop-node
decreases-push_forest-loop-node l = node_count (shape_of (forest_of l.rest))

abbrev pub decreases-push_forest : goal.decreases-push_forest
decreases-push_forest l = 2 * node_count (shape_of (forest_of l.forest))

abbrev pub decreases-push_node : goal.decreases-push_node
decreases-push_node l = 2 * node_count (shape_of (forest_of l.inner)) + 1
