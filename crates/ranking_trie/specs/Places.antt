-- Where the nodes of a forest lie in a list.
use Rattle.std.specs.Prelude.{◌≡◌, ℕ, ◌+◌, ◌-◌, ◌≤◌, List, length, get_or, cond, nat_eq, zero, suc}
use Rattle.ranking_trie.specs.declared.node.Node.{Node}
use Rattle.ranking_trie.specs.Bag.{node_count}
use Rattle.ranking_trie.specs.Forest.{Forest, Empty, Grow}

-- where siblings begin: there are none at 0
abbrev pub root : Forest → ℕ
root Empty = 0
root (Grow c n p inner next) = p

-- the node at a place, where places count from 1
abbrev pub node_at : List Node → ℕ → Node
node_at nodes p = get_or nodes (p - 1) (record { candidate = 0; ends = 0; first = 0; next = 0 })

-- a node with a candidate and its ballots, that leads to those below it and to its next sibling
abbrev pub node_of : (candidate ends : ℕ) (inner next : Forest) → Node
node_of c n inner next = record { candidate = c; ends = n; first = root inner; next = root next }

-- each node lies at its place
abbrev pub LiesIn : List Node → Forest → Type 0
LiesIn nodes Empty = Unit {0}
LiesIn nodes (Grow c n p inner next) =
    (1 ≤ p) × (p ≤ length nodes) × (node_at nodes p ≡ node_of c n inner next) × LiesIn nodes inner × LiesIn nodes next

-- 1 at the same place
abbrev pub one_at : ℕ → ℕ → ℕ
one_at q p = cond (nat_eq q p) 1 0

-- how many nodes lie at a place
abbrev pub times : ℕ → Forest → ℕ
times q Empty = 0
times q (Grow c n p inner next) = one_at q p + times q inner + times q next

-- the nodes that a place leads to, in at most as many steps
abbrev pub led : (steps : ℕ) → List Node → (place : ℕ) → Forest
led zero nodes p = Empty
led (suc t) nodes zero = Empty
led (suc t) nodes (suc i) =
    Grow (node_at nodes (suc i)).candidate (node_at nodes (suc i)).ends (suc i)
    (led t nodes (node_at nodes (suc i)).first) (led t nodes (node_at nodes (suc i)).next)

-- the siblings that begin at a place, and all below them
abbrev pub forest_at : List Node → (place : ℕ) → Forest
forest_at nodes p = led (length nodes) nodes p

-- a forest begins at a place
pub record BeginsAt (nodes : List Node) (p : ℕ) : Type 0 where
  pub lies : LiesIn nodes (forest_at nodes p)
  pub root : root (forest_at nodes p) ≡ p
  pub few : node_count (forest_at nodes p) ≤ length nodes
