-- The nodes of a trie: siblings, each with what is below it. A node is the beginning of rankings that leads to it.
use Rattle.std.specs.Prelude.{ℕ, ◌+◌, ◌-◌, ◌≤◌, ◌<◌, List, [], ◌∷◌, ◌++◌, length, map, replicate, take, drop, zero, suc}
use Rattle.plain_ballots.specs.declared.limits.TheConstants.{MOST_CANDIDATES}
use Rattle.frozen_plan.specs.declared.plan_row.PlanRow.{PlanRow}

-- the first sibling's candidate, how many ballots end at it, the nodes below it and those after it
pub data Forest : Type 0 where
  Bare : Forest
  Grown : (candidate ends : ℕ) (inner next : Forest) → Forest

-- the single ballots, each from the siblings' place on
abbrev pub ballots_of : Forest → List (List ℕ)
ballots_of Bare = []
ballots_of (Grown c n inner next) = map (λ r. c ∷ r) (replicate n [] ++ ballots_of inner) ++ ballots_of next

-- how many they are
abbrev pub through : Forest → ℕ
through Bare = 0
through (Grown c n inner next) = n + through inner + through next

-- The rows of the nodes in preorder: each before those below it, and these before its next sibling.
-- A row counts the ballots that go through its node, and the rows of the node and of those below it.
abbrev pub rows_of : (depth : ℕ) → Forest → List PlanRow
rows_of d Bare = []
rows_of d (Grown c n inner next) =
    record { depth = d; candidate = c; ballots = n + through inner; skip = length (rows_of (d + 1) inner) + 1 } ∷ (rows_of (d + 1) inner ++ rows_of d next)

-- nodes of n candidates, at most 250 deep: the candidates of siblings rise from above `low`, and each node has a ballot
abbrev pub IsGrown : (n low depth : ℕ) → Forest → Type 0
IsGrown n low d Bare = Unit {0}
IsGrown n low d (Grown c k inner next) =
    (low < c) × (c ≤ n) × (d ≤ MOST_CANDIDATES) × (1 ≤ k + through inner) × IsGrown n 0 (d + 1) inner × IsGrown n c d next

-- the nodes that rows in preorder say, of at most as many rows
abbrev pub read : ℕ → List PlanRow → Forest
read zero rows = Bare
read (suc t) [] = Bare
read (suc t) (row ∷ rows) =
    Grown row.candidate (row.ballots - through (read t (take (row.skip - 1) rows))) (read t (take (row.skip - 1) rows)) (read t (drop (row.skip - 1) rows))

-- the nodes that rows of siblings and of all below them say
abbrev pub nodes_of : List PlanRow → Forest
nodes_of rows = read (length rows) rows
