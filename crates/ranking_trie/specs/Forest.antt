-- The nodes of a trie: siblings, each with what is below it.
use Rattle.std.specs.Prelude.{ℕ}

-- the first sibling's candidate, how many ballots end at it, its place in the list of nodes, the nodes below it and those after it
pub data Forest : Type 0 where
  Empty : Forest
  Grow : (candidate ends place : ℕ) (inner next : Forest) → Forest
