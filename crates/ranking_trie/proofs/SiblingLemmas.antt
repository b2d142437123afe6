-- Siblings on the way to a candidate.
use Rattle.std.proofs.Common.{◌≡◌, ℕ, ◌-◌, ◌<◌, ◌≤◌, List, length, arith, refl, ap, sym, subst, ◌∙◌}
use Rattle.ranking_trie.specs.declared.node.Node.{Node}
use Rattle.ranking_trie.specs.Arena.{IsPassed, join, top}
use Rattle.ranking_trie.specs.Bag.{node_count, IsRising}
use Rattle.ranking_trie.specs.Forest.{Forest, Empty, Grow}
use Rattle.ranking_trie.specs.Places.{node_at, forest_at, BeginsAt}
use Rattle.ranking_trie.proofs.PlaceLemmas.{forest_is, IsOpened, opened}
use Rattle.ranking_trie.proofs.JoinLemmas.{join_assoc, last-join, top-join, rising_rest}

-- at the first of them
pub none_passed : (nodes : List Node) (first c : ℕ) → 1 ≤ c → BeginsAt nodes first → IsPassed nodes first c 0 first
none_passed nodes first c number begin = record {
  passed = Empty;
  is = refl;
  last = refl;
  under = number;
  rest = begin;
}

-- at the next one
pub one_passed :
    (nodes : List Node) (first c before at : ℕ) → IsPassed nodes first c before at → 1 ≤ at
    → (node_at nodes at).candidate < c → IsPassed nodes first c at (node_at nodes at).next
one_passed nodes first c before at p some less =
    let o : IsOpened nodes (forest_at nodes at) at = opened nodes at p.rest some in
    let d = (node_at nodes at).candidate in
    let ends = (node_at nodes at).ends in
    let inner = forest_at nodes (node_at nodes at).first in
    let next = forest_at nodes (node_at nodes at).next in
    record {
      passed = join p.passed (Grow d ends at inner Empty);
      is = p.is ∙ (ap (join p.passed) o.is ∙ sym (join_assoc p.passed (Grow d ends at inner Empty) next));
      last = last-join p.passed d ends at inner;
      under = omega (arith, top-join 0 p.passed d ends at inner);
      rest = o.next;
    }

-- which is of fewer
pub fewer_behind :
    (nodes : List Node) (first c before at : ℕ) → IsPassed nodes first c before at → 1 ≤ at
    → node_count (forest_at nodes (node_at nodes at).next) < node_count (forest_at nodes at)
fewer_behind nodes first c before at p some =
    let o : IsOpened nodes (forest_at nodes at) at = opened nodes at p.rest some in
    omega (arith, ap node_count o.is)

pub within_list :
    (nodes : List Node) (first c before at : ℕ) → IsPassed nodes first c before at → 1 ≤ at → at ≤ length nodes
within_list nodes first c before at p some = (opened nodes at p.rest some).within

-- the first that is not below the candidate
pub rising_on :
    (nodes : List Node) (first c before at : ℕ) → IsRising 0 (forest_at nodes first)
    → IsPassed nodes first c before at → 1 ≤ at → 1 ≤ c → c ≤ (node_at nodes at).candidate
    → IsRising (c - 1) (forest_at nodes at)
rising_on nodes first c before at rising p some number more =
    let o : IsOpened nodes (forest_at nodes at) at = opened nodes at p.rest some in
    let d = (node_at nodes at).candidate in
    let ends = (node_at nodes at).ends in
    let node : Forest =
    Grow d ends at (forest_at nodes (node_at nodes at).first) (forest_at nodes (node_at nodes at).next) in
    let here : IsRising (top 0 p.passed) node =
    subst (IsRising (top 0 p.passed)) o.is
    (rising_rest 0 p.passed (forest_at nodes at) (subst (IsRising 0) p.is rising)) in
    let on : IsRising (c - 1) node = (omega arith, here.1, here.2, here.3) in
    subst (IsRising (c - 1)) (sym o.is) on

-- and where there is none
pub rising_none : (nodes : List Node) (low : ℕ) → IsRising low (forest_at nodes 0)
rising_none nodes low =
    let is : forest_at nodes 0 ≡ Empty = forest_is nodes Empty 0 tt refl (omega arith) in
    let none : IsRising low Empty = tt in
    subst (IsRising low) (sym is) none
