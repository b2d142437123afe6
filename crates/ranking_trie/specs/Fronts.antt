-- The nodes that candidates lead to, and a table of those of two.
use Rattle.std.specs.Prelude.{◌≡◌, ◌≢◌, ℕ, ◌+◌, ◌-◌, ◌*◌, ◌≤◌, ◌⊎◌, List, [], ◌∷◌, length, get_or, take, cond, nat_eq}
use Rattle.ranking_trie.specs.declared.fronts.Fronts.{Fronts}
use Rattle.ranking_trie.specs.declared.node.Node.{Node}
use Rattle.ranking_trie.specs.Forest.{Forest, Empty, Grow}
use Rattle.ranking_trie.specs.Places.{node_at}

-- the place to which candidates, one below the other, lead from a node at a place, or 0 where a node is missing
abbrev pub place_on : (from : ℕ) → (path : List ℕ) → (below : Forest) → ℕ
place_on from [] f = from
place_on from (c ∷ path) Empty = 0
place_on from (c ∷ path) (Grow d n p inner next) = cond (nat_eq c d) (place_on p path inner) (place_on from (c ∷ path) next)

-- all nodes of a forest are at their places in another
abbrev pub KeepsPlaces : (old new : Forest) → Type 0
KeepsPlaces old new =
    (from : ℕ) (path : List ℕ) → place_on from path old ≢ 0 → place_on from path new ≡ place_on from path old

-- all but those on the way to a ranking
abbrev pub KeepsOthers : (ranking : List ℕ) → (old new : Forest) → Type 0
KeepsOthers ranking old new =
    (from : ℕ) (path : List ℕ) → take (length path) ranking ≢ path → place_on from path old ≢ 0
    → place_on from path new ≡ place_on from path old

-- a node at which a ballot ends, or that has two nodes below it: it keeps a ballot where a ranking that goes on goes
abbrev pub IsFirm : List Node → (place : ℕ) → Type 0
IsFirm nodes p =
    (1 ≤ (node_at nodes p).ends)
    ⊎ ((1 ≤ (node_at nodes p).first) × (1 ≤ (node_at nodes (node_at nodes p).first).next))

-- what a table says of two candidates, one below the other: a place, or 0
abbrev pub entry : Fronts → (c d : ℕ) → ℕ
entry fronts c d = get_or fronts.places.items ((c - 1) * fronts.candidates + (d - 1)) 0

-- each place that a table says is that of the candidates' node
abbrev pub KnowsPlaces : Fronts → Forest → Type 0
KnowsPlaces fronts f =
    (c d : ℕ) → 1 ≤ c → c ≤ fronts.candidates → 1 ≤ d → d ≤ fronts.candidates → entry fronts c d ≢ 0
    → place_on 0 (c ∷ d ∷ []) f ≡ entry fronts c d
