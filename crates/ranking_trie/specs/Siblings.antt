-- Siblings in a list of nodes.
use Rattle.std.specs.Prelude.{ℕ, List}
use Rattle.ranking_trie.specs.declared.node.Node.{Node}
use Rattle.ranking_trie.specs.Forest.{Forest}
use Rattle.ranking_trie.specs.Places.{forest_at}

-- a list of nodes, and where the siblings begin
pub record SiblingsSeen : Type 0 where
  pub nodes : List Node
  pub first : ℕ

-- the siblings and all below them
abbrev pub forest_of : SiblingsSeen → Forest
forest_of siblings = forest_at siblings.nodes siblings.first
