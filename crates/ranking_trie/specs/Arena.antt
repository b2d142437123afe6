-- A trie's forest beside the nodes to spare, in one list.
use Rattle.std.specs.Prelude.{◌≡◌, ℕ, ◌+◌, ◌<◌, ◌≤◌, List, length}
use Rattle.ranking_trie.specs.declared.node.Node.{Node}
use Rattle.ranking_trie.specs.declared.arena.Arena.{Arena}
use Rattle.ranking_trie.specs.Bag.{node_count, IsRising}
use Rattle.ranking_trie.specs.Forest.{Forest, Empty, Grow}
use Rattle.ranking_trie.specs.Places.{node_at, forest_at, times, BeginsAt}

-- the siblings that begin at a place of the list
abbrev pub forest_in : Arena → (place : ℕ) → Forest
forest_in arena p = forest_at arena.nodes.items p

-- how many nodes of siblings and of those to spare lie at a place
abbrev pub times_in : Arena → (first place : ℕ) → ℕ
times_in arena first q = times q (forest_in arena first) + times q (forest_in arena arena.free)

-- nodes one after another, with none below
abbrev pub IsChain : Forest → Type 0
IsChain Empty = Unit {0}
IsChain (Grow c n p inner next) = (inner ≡ Empty) × IsChain next

-- siblings and nodes to spare, no two of which lie at one place
pub record IsApart (arena : Arena) (first : ℕ) : Type 0 where
  pub used : BeginsAt arena.nodes.items first
  pub idle : BeginsAt arena.nodes.items arena.free
  pub chain : IsChain (forest_in arena arena.free)
  pub apart : (q : ℕ) → times_in arena first q ≤ 1
  pub counted : arena.spare ≡ node_count (forest_in arena arena.free)
  pub few : node_count (forest_in arena first) + arena.spare ≤ length arena.nodes.items

-- the same places for siblings and nodes to spare together, and the nodes at all other places as they were
pub record IsMoved (old : Arena) (first : ℕ) (new : Arena) (begin : ℕ) : Type 0 where
  pub apart : IsApart new begin
  pub size : length new.nodes.items ≡ length old.nodes.items
  pub places : (q : ℕ) → times_in new begin q ≡ times_in old first q
  pub others : (q : ℕ) → 1 ≤ q → times_in old first q ≡ 0 → node_at new.nodes.items q ≡ node_at old.nodes.items q
  pub count : node_count (forest_in new begin) + new.spare ≡ node_count (forest_in old first) + old.spare

-- siblings before others
abbrev pub join : Forest → Forest → Forest
join Empty rest = rest
join (Grow c n p inner next) rest = Grow c n p inner (join next rest)

-- the place of the last of siblings
abbrev pub last_place : Forest → ℕ
last_place Empty = 0
last_place (Grow c n p inner Empty) = p
last_place (Grow c n p inner (Grow d m q inner_2 next)) = last_place (Grow d m q inner_2 next)

-- the candidate of the last of siblings, or else `low`
abbrev pub top : (low : ℕ) → Forest → ℕ
top low Empty = low
top low (Grow c n p inner next) = top c next

-- siblings below a candidate, the last of them at `before`, and the others from `at` on
pub record IsPassed (nodes : List Node) (first c before at : ℕ) : Type 0 where
  pub passed : Forest
  pub is : forest_at nodes first ≡ join passed (forest_at nodes at)
  pub last : last_place passed ≡ before
  pub under : top 0 passed < c
  pub rest : BeginsAt nodes at

-- siblings among which a candidate's node lies at a place, after the last one before it
pub record HasNode (forest : Forest) (c before place : ℕ) : Type 0 where
  pub ends : ℕ
  pub passed : Forest
  pub inner : Forest
  pub next : Forest
  pub is : forest ≡ join passed (Grow c ends place inner next)
  pub last : last_place passed ≡ before
  pub passed_rising : IsRising 0 passed
  pub under : top 0 passed < c
  pub inner_rising : IsRising 0 inner
  pub next_rising : IsRising c next
