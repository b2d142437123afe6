-- A node that goes from among siblings.
use Rattle.std.proofs.Common.{◌≡◌, ◌≢◌, ℕ, ◌+◌, ◌-◌, ◌≤◌, List, [], ◌∷◌, ◌++◌, length, set, length-set, inl, inr}
use Rattle.std.proofs.Common.{arith, refl, ap, sym, subst, ◌∙◌}
use Rattle.std.proofs.lemmas.Bool.{cases_eq}
use Rattle.ranking_trie.specs.declared.node.Node.{Node}
use Rattle.ranking_trie.specs.declared.arena.Arena.{Arena}
use Rattle.ranking_trie.specs.Arena.{forest_in, IsChain, IsApart, IsMoved, HasNode, join, top}
use Rattle.ranking_trie.specs.Bag.{bag, below, node_count, IsRising}
use Rattle.ranking_trie.specs.Forest.{Forest, Empty, Grow}
use Rattle.ranking_trie.specs.Fronts.{KeepsOthers}
use Rattle.ranking_trie.specs.Places.{root, node_at, LiesIn, one_at, times}
use Rattle.ranking_trie.proofs.BagLemmas.{rising_less}
use Rattle.ranking_trie.proofs.PlaceLemmas.{here, node_set_same, node_set_other, within, lies_same}
use Rattle.ranking_trie.proofs.PlaceLemmas.{root_none}
use Rattle.ranking_trie.proofs.JoinLemmas.{times-join, count-join, bag-join, last_in}
use Rattle.ranking_trie.proofs.JoinLemmas.{rising_both}
use Rattle.ranking_trie.proofs.ArenaLemmas.{IsLaid, laid, IsNode, node_in}
use Rattle.ranking_trie.proofs.PathLemmas.{others_dropped, others_join, others_is}
use Rattle.ranking_trie.proofs.HangLemmas.{IsLinked, linked}

-- the node before another is in the list, or none
pub last_within :
    (a : Arena) (first c before place : ℕ) → IsApart a first → HasNode (forest_in a first) c before place
    → before ≤ length a.nodes.items
last_within a first c before place apart h =
    elim (cases_eq before 0) [
      | inl zero ↦ omega (arith, zero)
      | inr other ↦
          let found : 1 ≤ times before h.passed =
          subst (λ (r : ℕ). 1 ≤ times r h.passed) h.last (last_in h.passed (omega (arith, h.last, other))) in
          (within a.nodes.items (forest_in a first) before apart.used.lies
          (omega (arith, found, ap (times before) h.is, times-join before h.passed (Grow c h.ends place h.inner h.next)))).1
    ]

-- a node that goes, where it has no ballots
pub record IsDropped (old : Arena) (first : ℕ) (new : Arena) (begin c : ℕ) : Type 0 where
  pub moved : IsMoved old first new begin
  pub rising : IsRising 0 (forest_in new begin)
  pub bag : bag (forest_in new begin) ≡ bag (forest_in old first)
  pub kept : KeepsOthers (c ∷ []) (forest_in old first) (forest_in new begin)

pub dropped :
    (old mid new : Arena) (first c before place begin : ℕ) (h : HasNode (forest_in old first) c before place)
    → IsApart old first → (node_at old.nodes.items place).ends ≡ 0 → (node_at old.nodes.items place).first ≡ 0
    → mid.nodes.items
    ≡ set old.nodes.items (place - 1) (record { candidate = 0; ends = 0; first = 0; next = old.free })
    → mid.free ≡ place → mid.spare ≡ old.spare + 1
    → (before ≡ 0 → begin ≡ (node_at old.nodes.items place).next)
    → (before ≡ 0 → new.nodes.items ≡ mid.nodes.items) → (1 ≤ before → begin ≡ first)
    → (1 ≤ before → new.nodes.items
    ≡ set mid.nodes.items (before - 1)
    (record (node_at mid.nodes.items before) { next = (node_at old.nodes.items place).next }))
    → new.free ≡ mid.free → new.spare ≡ mid.spare → IsDropped old first new begin c
dropped old mid new first c before place begin h apart no_ends no_inner write mid_free mid_spare none_begin none_new
    some_begin some_new new_free new_spare =
    let nodes = old.nodes.items in
    let x : Node = record { candidate = 0; ends = 0; first = 0; next = old.free } in
    let idle : Forest = forest_in old old.free in
    let n : IsNode old first c h.ends place h.passed h.inner h.next =
    node_in old first c h.ends place h.passed h.inner h.next apart h.is in
    let ends : h.ends ≡ 0 = sym (ap (λ (y : Node). y.ends) n.node) ∙ no_ends in
    let inner : h.inner ≡ Empty =
    root_none h.inner nodes n.lies_inner (sym (ap (λ (y : Node). y.first) n.node) ∙ no_inner) in
    let behind : root h.next ≡ (node_at nodes place).next = sym (ap (λ (y : Node). y.next) n.node) in
    let parts : (q : ℕ) → times q (forest_in old first) ≡ times q h.passed + (one_at q place + times q h.next) =
    λ q. omega (arith, n.parts q, ap (times q) inner) in
    let mid_size : length mid.nodes.items ≡ length nodes = ap length write ∙ length-set nodes (place - 1) x in
    let beside : (q : ℕ) → 1 ≤ q → q ≢ place → node_at mid.nodes.items q ≡ node_at nodes q =
    λ q some ne. ap (λ (l : List Node). node_at l q) write ∙ node_set_other nodes place q x n.some some ne in
    let once_place : times place (forest_in old first) + times place idle ≤ 1 = apart.apart place in
    let nowhere : times place h.passed + times place h.next + times place idle ≡ 0 =
    omega (arith, parts place, here place place refl) in
    let kept : (f : Forest) → LiesIn nodes f → times place f ≡ 0 → LiesIn mid.nodes.items f =
    λ f lies_f none. lies_same nodes mid.nodes.items f (omega arith)
    (λ q in_q. beside q (within nodes f q lies_f in_q).0
    (λ e. omega (arith, in_q, none, subst (λ (r : ℕ). 1 ≤ times r f) e in_q))) lies_f in
    let l : IsLinked mid.nodes.items new.nodes.items h.passed begin (join h.passed h.next) =
    linked nodes mid.nodes.items new.nodes.items h.passed (Grow c h.ends place h.inner h.next) h.next before
    (node_at nodes place).next first begin mid_size n.lies h.last
    (ap root (sym h.is) ∙ apart.used.root) behind
    (λ q. omega (arith, apart.apart q, parts q))
    (λ q in_q. beside q
    (within nodes (forest_in old first) q apart.used.lies (omega (arith, in_q, parts q))).0
    (λ e. omega (arith, in_q, nowhere, subst (λ (r : ℕ). 1 ≤ times r h.passed) e in_q)))
    (kept h.next n.lies_next (omega arith)) none_begin none_new some_begin some_new in
    let spared : Forest = Grow 0 0 place Empty idle in
    let lies_spared : LiesIn new.nodes.items spared = (
      n.some,
      omega (arith, n.within, l.size),
      l.others place n.some (omega arith)
          ∙ (ap (λ (l : List Node). node_at l place) write
          ∙ (node_set_same nodes place x n.some n.within
          ∙ ap (λ (r : ℕ). record { candidate = 0; ends = 0; first = 0; next = r }) (sym apart.idle.root))),
      tt,
      lies_same mid.nodes.items new.nodes.items idle (omega (arith, l.size))
          (λ q in_q. l.others q (within nodes idle q apart.idle.lies in_q).0
          (omega (arith, in_q, apart.apart q, parts q)))
          (kept idle apart.idle.lies (omega arith)),
    ) in
    let chain : IsChain spared = (refl, apart.chain) in
    let done : IsLaid old first new begin (join h.passed h.next) =
    laid old new first begin (join h.passed h.next) spared apart l.lies l.root lies_spared
    (sym (new_free ∙ mid_free)) chain (omega (arith, apart.counted)) (l.size ∙ mid_size)
    (λ q. omega (arith, times-join q h.passed h.next, parts q))
    (omega (arith, count-join h.passed h.next, n.count, ap node_count inner, apart.counted))
    (λ q some none. l.others q some (omega (arith, none, parts q))
    ∙ beside q some (λ e. omega (arith, none, parts q, here q place e))) in
    record {
      moved = done.moved;
      rising = subst (IsRising 0) (sym done.forest)
          (rising_both 0 h.passed h.next h.passed_rising
          (rising_less (top 0 h.passed) c h.next (omega (arith, h.under)) h.next_rising));
      bag = ap bag done.forest
          ∙ (bag-join h.passed h.next
          ∙ (ap (λ (b : List (List ℕ)). bag h.passed ++ b)
          (ap (λ (k : ℕ). below c k (bag Empty) ++ bag h.next) (sym ends)
          ∙ ap (λ (g : Forest). below c h.ends (bag g) ++ bag h.next) (sym inner))
          ∙ (sym (bag-join h.passed (Grow c h.ends place h.inner h.next)) ∙ ap bag (sym h.is))));
      kept =
          others_is (c ∷ []) (forest_in old first) (forest_in new begin)
          (join h.passed (Grow c 0 place Empty h.next)) (join h.passed h.next)
          (h.is
          ∙ (ap (λ (k : ℕ). join h.passed (Grow c k place h.inner h.next)) ends
          ∙ ap (λ (g : Forest). join h.passed (Grow c 0 place g h.next)) inner))
          done.forest
          (others_join (c ∷ []) h.passed (Grow c 0 place Empty h.next) h.next (others_dropped c place h.next));
    }
