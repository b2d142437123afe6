-- The single ballots of a forest.
use Rattle.std.specs.Prelude.{◌≡◌, ℕ, ◌+◌, ◌<◌, ◌≤◌, length, List, [], ◌∷◌, ◌++◌, map, replicate}
use Rattle.ranking_trie.specs.Forest.{Forest, Empty, Grow}

-- the ballots of a node: those that end at it, and those that go on below it
abbrev pub below : (candidate ends : ℕ) → (inner : List (List ℕ)) → List (List ℕ)
below c n inner = map (λ r. c ∷ r) (replicate n [] ++ inner)

-- the ballots of siblings and of all below them
abbrev pub bag : Forest → List (List ℕ)
bag Empty = []
bag (Grow c n p inner next) = below c n (bag inner) ++ bag next

-- the ballots of a root, at which those that name nobody end, and of the forest below it
abbrev pub root_bag : (ends : ℕ) → Forest → List (List ℕ)
root_bag n forest = replicate n [] ++ bag forest

-- how many nodes there are
abbrev pub node_count : Forest → ℕ
node_count Empty = 0
node_count (Grow c n p inner next) = 1 + node_count inner + node_count next

-- candidates of siblings rise from above `low`, and each node has a ballot
abbrev pub IsRising : (low : ℕ) → Forest → Type 0
IsRising low Empty = Unit {0}
IsRising low (Grow c n p inner next) =
    (low < c) × (1 ≤ n + length (bag inner)) × IsRising 0 inner × IsRising c next

-- candidates from 1 to n, and nodes from `depth` on that are no deeper than `deepest`
abbrev pub IsWithin : (n deepest depth : ℕ) → Forest → Type 0
IsWithin n deepest depth Empty = Unit {0}
IsWithin n deepest depth (Grow c k p inner next) =
    (1 ≤ c) × (c ≤ n) × (depth ≤ deepest) × IsWithin n deepest (depth + 1) inner × IsWithin n deepest depth next

-- the same nodes, wherever they lie in the list
abbrev pub HaveSameForm : Forest → Forest → Type 0
HaveSameForm Empty Empty = Unit {0}
HaveSameForm Empty (Grow d m q inner next) = ⊥
HaveSameForm (Grow c n p inner next) Empty = ⊥
HaveSameForm (Grow c n p inner next) (Grow d m q inner_2 next_2) =
    (c ≡ d) × (n ≡ m) × HaveSameForm inner inner_2 × HaveSameForm next next_2
