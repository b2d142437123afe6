-- Ballots put in at a node and below it, and taken out.
use Rattle.std.proofs.Common.{◌≡◌, ℕ, ◌+◌, ◌-◌, ◌<◌, ◌≤◌, List, [], ◌∷◌, ◌++◌, length, get_or, drop, replicate, set}
use Rattle.std.proofs.Common.{arith, refl, ap, sym, subst, ◌∙◌}
use Rattle.std.specs.List.Sorted.{IsPermutation}
use Rattle.std.proofs.lemmas.List.{drop_more, drop_all, length-append, length-replicate}
use Rattle.std.proofs.lemmas.List.Sorted.{IsPermutation-refl, length_permutation}
use Rattle.ranking_trie.specs.declared.node.Node.{Node}
use Rattle.ranking_trie.specs.declared.arena.Arena.{Arena}
use Rattle.ranking_trie.specs.Arena.{forest_in, IsApart, IsMoved, HasNode, join}
use Rattle.ranking_trie.specs.Bag.{bag, below, IsRising}
use Rattle.ranking_trie.specs.BallotBag.{count_of}
use Rattle.ranking_trie.specs.Forest.{Forest, Grow}
use Rattle.ranking_trie.specs.Fronts.{KeepsPlaces, KeepsOthers}
use Rattle.ranking_trie.specs.Places.{node_at}
use Rattle.ranking_trie.proofs.ArenaLemmas.{IsLaid, IsNode, node_in, ended, apart_below, led_below}
use Rattle.ranking_trie.proofs.BagLemmas.{below_more_ends, below_more_inner, below_fewer_ends}
use Rattle.ranking_trie.proofs.ChangeLemmas.{node_kept, rising_with, more_at, fewer_at, count_at}
use Rattle.ranking_trie.proofs.PathLemmas.{keeps_all, keeps_node, keeps_join, keeps_is}
use Rattle.ranking_trie.proofs.PathLemmas.{others_all, others_node, others_join, others_is}

-- where a node is, and how many ballots end at it
pub own_ends :
    (a : Arena) (first c before place : ℕ) (h : HasNode (forest_in a first) c before place) → IsApart a first
    → (1 ≤ place) × (place ≤ length a.nodes.items) × ((node_at a.nodes.items place).ends ≡ h.ends)
own_ends a first c before place h apart =
    let n : IsNode a first c h.ends place h.passed h.inner h.next =
    node_in a first c h.ends place h.passed h.inner h.next apart h.is in
    (n.some, n.within, ap (λ (x : Node). x.ends) n.node)

-- the last rank, and one that others follow
pub last_rank : (ranks : List ℕ) (at : ℕ) → at < length ranks → length ranks ≤ at + 1 → drop at ranks ≡ get_or ranks at 0 ∷ []
last_rank ranks at inside past =
    drop_more ranks at 0 inside ∙ ap (λ (l : List ℕ). get_or ranks at 0 ∷ l) (drop_all (at + 1) ranks past)

-- the ballots that have the ranks from a place on are at the rank's node those that have the ranks after it
pub count_on :
    (ranks : List ℕ) (at before place : ℕ) (f : Forest) (h : HasNode f (get_or ranks at 0) before place)
    → at < length ranks
    → count_of (drop (at + 1) ranks) (replicate h.ends [] ++ bag h.inner) ≡ count_of (drop at ranks) (bag f)
count_on ranks at before place f h inside =
    count_at f (get_or ranks at 0) before place (drop (at + 1) ranks) h
    ∙ ap (λ (r : List ℕ). count_of r (bag f)) (sym (drop_more ranks at 0 inside))

-- siblings with more ballots
pub record IsPut (old : Arena) (first : ℕ) (new : Arena) (more : List (List ℕ)) : Type 0 where
  pub moved : IsMoved old first new first
  pub rising : IsRising 0 (forest_in new first)
  pub bag : IsPermutation (bag (forest_in new first)) (more ++ bag (forest_in old first))
  pub kept : KeepsPlaces (forest_in old first) (forest_in new first)

-- where the nodes below a node stay, all stay
kept_at :
    (f g : Forest) (c before place m : ℕ) (low : Forest) (h : HasNode f c before place)
    → g ≡ join h.passed (Grow c m place low h.next) → KeepsPlaces h.inner low → KeepsPlaces f g
kept_at f g c before place m low h is inside =
    let was : Forest = Grow c h.ends place h.inner h.next in
    let node : Forest = Grow c m place low h.next in
    keeps_is f g (join h.passed was) (join h.passed node) h.is is
    (keeps_join h.passed was node (keeps_node c h.ends m place h.inner low h.next h.next inside (keeps_all h.next)))

pub put_at :
    (old new : Arena) (first c before place k : ℕ) (h : HasNode (forest_in old first) c before place)
    → IsApart old first → 1 ≤ k
    → new.nodes.items ≡ set old.nodes.items (place - 1)
    (record (node_at old.nodes.items place) { ends = (node_at old.nodes.items place).ends + k })
    → new.free ≡ old.free → new.spare ≡ old.spare → IsPut old first new (replicate k (c ∷ []))
put_at old new first c before place k h apart some write free spare =
    let f = forest_in old first in
    let g = forest_in new first in
    let m = (node_at old.nodes.items place).ends + k in
    let is : m ≡ h.ends + k = ap (λ (n : ℕ). n + k) (own_ends old first c before place h apart).2 in
    let e : IsLaid old first new first (join h.passed (Grow c m place h.inner h.next)) =
    ended old new first c m before place h apart write free spare in
    let there : IsPermutation (below c m (bag h.inner)) (replicate k (c ∷ []) ++ below c h.ends (bag h.inner)) =
    subst (λ (n : ℕ). IsPermutation (below c n (bag h.inner)) (replicate k (c ∷ []) ++ below c h.ends (bag h.inner)))
    (sym is)
    (subst (λ (l : List (List ℕ)). IsPermutation (below c (h.ends + k) (bag h.inner)) l)
    (below_more_ends c h.ends k (bag h.inner)) (IsPermutation-refl (below c (h.ends + k) (bag h.inner)))) in
    record {
      moved = e.moved;
      rising =
          rising_with f g c before place m h.inner h e.forest h.inner_rising (omega (arith, is, some));
      bag = more_at f g c before place m h.inner (replicate k (c ∷ [])) (bag f) h e.forest refl there;
      kept = kept_at f g c before place m h.inner h e.forest (keeps_all h.inner);
    }

pub put_below :
    (old mid new : Arena) (first c before place under k : ℕ) (s : List ℕ)
    (h : HasNode (forest_in old first) c before place) → IsApart old first → 1 ≤ k
    → IsMoved old (node_at old.nodes.items place).first mid under
    → IsPermutation (bag (forest_in mid under))
    (replicate k s ++ bag (forest_in old (node_at old.nodes.items place).first))
    → IsRising 0 (forest_in mid under)
    → KeepsPlaces (forest_in old (node_at old.nodes.items place).first) (forest_in mid under)
    → new.nodes.items ≡ set mid.nodes.items (place - 1) (record (node_at mid.nodes.items place) { first = under })
    → new.free ≡ mid.free → new.spare ≡ mid.spare → IsPut old first new (replicate k (c ∷ s))
put_below old mid new first c before place under k s h apart some moved same rising kept write free spare =
    let f = forest_in old first in
    let g = forest_in new first in
    let low = forest_in mid under in
    let l : IsLaid old first new first (join h.passed (Grow c h.ends place low h.next)) =
    led_below old mid new first c before place under h apart moved write free spare in
    let there : IsPermutation (bag low) (replicate k s ++ bag h.inner) =
    subst (λ (x : Forest). IsPermutation (bag low) (replicate k s ++ bag x))
    (apart_below old first c before place h apart).0 same in
    let size : length (bag low) ≡ k + length (bag h.inner) =
    omega (
      arith,
      length_permutation (bag low) (replicate k s ++ bag h.inner) there,
      length-append (replicate k s) (bag h.inner),
      length-replicate k s,
    ) in
    record {
      moved = l.moved;
      rising =
          rising_with f g c before place h.ends low h l.forest rising (omega (arith, size, some));
      bag =
          more_at f g c before place h.ends low (replicate k (c ∷ s)) (bag f) h l.forest refl
          (below_more_inner c h.ends k s (bag h.inner) (bag low) there);
      kept =
          kept_at f g c before place h.ends low h l.forest
          (subst (λ (x : Forest). KeepsPlaces x low) (apart_below old first c before place h apart).0 kept);
    }

-- siblings with fewer ballots, where a node may have none
pub record IsTaken (old : Arena) (first : ℕ) (new : Arena) (c before place k : ℕ) (s : List ℕ) : Type 0 where
  pub moved : IsMoved old first new first
  pub node : HasNode (forest_in new first) c before place
  pub bag : IsPermutation (bag (forest_in old first)) (replicate k (c ∷ s) ++ bag (forest_in new first))
  pub kept : KeepsOthers (c ∷ s) (forest_in old first) (forest_in new first)

pub taken_at :
    (old new : Arena) (first c before place k : ℕ) (h : HasNode (forest_in old first) c before place)
    → IsApart old first → k ≤ h.ends
    → new.nodes.items ≡ set old.nodes.items (place - 1)
    (record (node_at old.nodes.items place) { ends = (node_at old.nodes.items place).ends - k })
    → new.free ≡ old.free → new.spare ≡ old.spare → IsTaken old first new c before place k []
taken_at old new first c before place k h apart held write free spare =
    let f = forest_in old first in
    let g = forest_in new first in
    let m = (node_at old.nodes.items place).ends - k in
    let is : m ≡ h.ends - k = ap (λ (n : ℕ). n - k) (own_ends old first c before place h apart).2 in
    let e : IsLaid old first new first (join h.passed (Grow c m place h.inner h.next)) =
    ended old new first c m before place h apart write free spare in
    let there : IsPermutation (below c h.ends (bag h.inner)) (replicate k (c ∷ []) ++ below c m (bag h.inner)) =
    subst (λ (n : ℕ). IsPermutation (below c h.ends (bag h.inner)) (replicate k (c ∷ []) ++ below c n (bag h.inner)))
    (sym is) (below_fewer_ends c h.ends k (bag h.inner) held) in
    record {
      moved = e.moved;
      node = node_kept f g c before place m h.inner h e.forest h.inner_rising;
      bag = fewer_at f g c before place m h.inner (replicate k (c ∷ [])) h e.forest there;
      kept = others_all (c ∷ []) f g (kept_at f g c before place m h.inner h e.forest (keeps_all h.inner));
    }

pub taken_below :
    (old mid new : Arena) (first c before place under k : ℕ) (s : List ℕ)
    (h : HasNode (forest_in old first) c before place) → IsApart old first
    → IsMoved old (node_at old.nodes.items place).first mid under
    → IsPermutation (bag (forest_in old (node_at old.nodes.items place).first))
    (replicate k s ++ bag (forest_in mid under))
    → IsRising 0 (forest_in mid under)
    → KeepsOthers s (forest_in old (node_at old.nodes.items place).first) (forest_in mid under)
    → new.nodes.items ≡ set mid.nodes.items (place - 1) (record (node_at mid.nodes.items place) { first = under })
    → new.free ≡ mid.free → new.spare ≡ mid.spare
    → IsTaken old first new c before place k s
taken_below old mid new first c before place under k s h apart moved same rising kept write free spare =
    let f = forest_in old first in
    let g = forest_in new first in
    let low = forest_in mid under in
    let was : Forest = Grow c h.ends place h.inner h.next in
    let node : Forest = Grow c h.ends place low h.next in
    let l : IsLaid old first new first (join h.passed node) =
    led_below old mid new first c before place under h apart moved write free spare in
    let there : IsPermutation (bag h.inner) (replicate k s ++ bag low) =
    subst (λ (x : Forest). IsPermutation (bag x) (replicate k s ++ bag low))
    (apart_below old first c before place h apart).0 same in
    record {
      moved = l.moved;
      node = node_kept f g c before place h.ends low h l.forest rising;
      bag =
          fewer_at f g c before place h.ends low (replicate k (c ∷ s)) h l.forest
          (below_more_inner c h.ends k s (bag low) (bag h.inner) there);
      kept =
          others_is (c ∷ s) f g (join h.passed was) (join h.passed node) h.is l.forest
          (others_join (c ∷ s) h.passed was node
          (others_node c s h.ends h.ends place h.inner low h.next
          (subst (λ (x : Forest). KeepsOthers s x low) (apart_below old first c before place h apart).0 kept)));
    }
