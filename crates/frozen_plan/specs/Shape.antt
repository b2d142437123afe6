-- The nodes of a trie, without where they lie.
use Rattle.ranking_trie.specs.Forest.{Forest, Empty, Grow}
use Rattle.frozen_plan.specs.Forest as plan

abbrev pub shape_of : Forest → plan.Forest
shape_of Empty = plan.Bare
shape_of (Grow c n p inner next) = plan.Grown c n (shape_of inner) (shape_of next)
