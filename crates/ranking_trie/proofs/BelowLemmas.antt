-- The node of two candidates, and ballots that come to it or go from it.
use Rattle.std.proofs.Common.{◌≡◌, ◌≢◌, ℕ, ◌+◌, ◌-◌, ◌<◌, ◌≤◌, List, [], ◌∷◌, ◌++◌, length, get_or, take, drop, replicate, set}
use Rattle.std.proofs.Common.{inl, inr, arith, refl, ap, sym, subst, ◌∙◌}
use Rattle.std.proofs.lemmas.Bool.{cases_eq}
use Rattle.std.proofs.lemmas.List.{set-get_or}
use Rattle.ranking_trie.specs.declared.node.Node.{Node}
use Rattle.ranking_trie.specs.declared.arena.Arena.{Arena}
use Rattle.ranking_trie.specs.Arena.{forest_in, IsApart, IsMoved, HasNode, join}
use Rattle.ranking_trie.specs.Bag.{bag, node_count, IsRising}
use Rattle.ranking_trie.specs.BallotBag.{count_of}
use Rattle.ranking_trie.specs.Forest.{Forest, Empty, Grow}
use Rattle.ranking_trie.specs.Fronts.{place_on, IsFirm, KeepsOthers}
use Rattle.ranking_trie.specs.Places.{node_at, times, forest_at}
use Rattle.ranking_trie.proofs.ArenaLemmas.{IsLaid, IsNode, node_in, apart_below, led_below}
use Rattle.ranking_trie.proofs.ChangeLemmas.{ends_few, rising_with, some_ballots, count_at}
use Rattle.ranking_trie.proofs.CountLemmas.{count_of-deeper}
use Rattle.ranking_trie.proofs.JoinLemmas.{count-join}
use Rattle.ranking_trie.proofs.PathLemmas.{on_own, on_other, leads_to, IsOnWay, on_way}
use Rattle.ranking_trie.proofs.PlaceLemmas.{here, IsOpened, opened}
use Rattle.ranking_trie.proofs.StepLemmas.{IsPut, put_below, IsTaken, taken_below}

-- the first two of some ranks
pub two_ranks :
    (ranks : List ℕ) → 2 ≤ length ranks → ranks ≡ get_or ranks 0 0 ∷ get_or ranks 1 0 ∷ drop 2 ranks
two_ranks [] two = absurd (omega arith)
two_ranks (c ∷ []) two = absurd (omega arith)
two_ranks (c ∷ d ∷ s) two = refl

pub take_two : (ranks : List ℕ) → 2 ≤ length ranks → take 2 ranks ≡ get_or ranks 0 0 ∷ get_or ranks 1 0 ∷ []
take_two [] two = absurd (omega arith)
take_two (c ∷ []) two = absurd (omega arith)
take_two (c ∷ d ∷ s) two = refl

-- a candidate's node below that of another
pub record IsBelow (a : Arena) (first c d place : ℕ) : Type 0 where
  pub before : ℕ
  pub upper : ℕ
  pub node : HasNode (forest_in a first) c before upper
  pub after : ℕ
  pub low : HasNode (forest_in a (node_at a.nodes.items upper).first) d after place
  pub apart : IsApart a (node_at a.nodes.items upper).first
  pub few : length (bag (forest_in a (node_at a.nodes.items upper).first)) ≤ length (bag (forest_in a first))

pub two_found :
    (a : Arena) (first c d place : ℕ) → IsApart a first → IsRising 0 (forest_in a first)
    → place_on 0 (c ∷ d ∷ []) (forest_in a first) ≡ place → 1 ≤ place → IsBelow a first c d place
two_found a first c d place apart rising leads some =
    let f = forest_in a first in
    let w : IsOnWay 0 c (d ∷ []) f = on_way 0 c (d ∷ []) f rising (λ none. omega (arith, some, leads, none)) in
    let low = apart_below a first c w.before w.place w.node apart in
    let on : place_on w.place (d ∷ []) w.node.inner ≡ place =
    sym {a = place_on 0 (c ∷ d ∷ []) f} {b = place_on w.place (d ∷ []) w.node.inner} w.leads ∙ leads in
    let v : IsOnWay w.place d [] w.node.inner =
    on_way w.place d [] w.node.inner w.node.inner_rising (λ none. omega (arith, some, on, none)) in
    let same : v.place ≡ place = sym {a = place_on w.place (d ∷ []) w.node.inner} {b = v.place} v.leads ∙ on in
    record {
      before = w.before;
      upper = w.place;
      node = w.node;
      after = v.before;
      low =
          subst (λ (g : Forest). HasNode g d v.before place) (sym low.0)
          (subst (HasNode w.node.inner d v.before) same v.node);
      apart = low.1;
      few = omega (arith, ends_few f c w.before w.place w.node, ap (λ (g : Forest). length (bag g)) low.0);
    }

pub found_below :
    (a : Arena) (first place : ℕ) (ranks : List ℕ) → IsApart a first → IsRising 0 (forest_in a first)
    → 2 ≤ length ranks → place_on 0 (take 2 ranks) (forest_in a first) ≡ place → 1 ≤ place
    → IsBelow a first (get_or ranks 0 0) (get_or ranks 1 0) place
found_below a first place ranks apart rising two leads some =
    two_found a first (get_or ranks 0 0) (get_or ranks 1 0) place apart rising
    (ap (λ (path : List ℕ). place_on 0 path (forest_in a first)) (sym (take_two ranks two)) ∙ leads) some

-- a node stays as nodes below it change
node_same :
    (old new : Arena) (first c before place : ℕ) (h : HasNode (forest_in old first) c before place)
    → IsApart old first
    → IsMoved old (node_at old.nodes.items place).first new (node_at old.nodes.items place).first
    → node_at new.nodes.items place ≡ node_at old.nodes.items place
node_same old new first c before place h apart moved =
    let n : IsNode old first c h.ends place h.passed h.inner h.next =
    node_in old first c h.ends place h.passed h.inner h.next apart h.is in
    let low = apart_below old first c before place h apart in
    moved.others place n.some
    (omega (arith, apart.apart place, n.parts place, here place place refl, ap (times place) low.0))

-- as if where it leads had been written again
written_same :
    (old new : Arena) (first c before place : ℕ) (h : HasNode (forest_in old first) c before place)
    → IsApart old first
    → IsMoved old (node_at old.nodes.items place).first new (node_at old.nodes.items place).first
    → new.nodes.items ≡ set new.nodes.items (place - 1)
    (record (node_at new.nodes.items place) { first = (node_at old.nodes.items place).first })
written_same old new first c before place h apart moved =
    let blank : Node = record { candidate = 0; ends = 0; first = 0; next = 0 } in
    let same = node_same old new first c before place h apart moved in
    let kept : record (node_at new.nodes.items place) { first = (node_at old.nodes.items place).first }
    ≡ node_at new.nodes.items place =
    ap (λ (r : ℕ). record (node_at new.nodes.items place) { first = r }) (sym (ap (λ (x : Node). x.first) same)) in
    sym (ap (λ (x : Node). set new.nodes.items (place - 1) x) kept ∙ set-get_or new.nodes.items (place - 1) blank)

-- more ballots below it
pub put_through :
    (old new : Arena) (first c before place k : ℕ) (s : List ℕ) (h : HasNode (forest_in old first) c before place)
    → IsApart old first → 1 ≤ k → IsPut old (node_at old.nodes.items place).first new (replicate k s)
    → IsPut old first new (replicate k (c ∷ s))
put_through old new first c before place k s h apart some put =
    put_below old new new first c before place (node_at old.nodes.items place).first k s h apart some put.moved put.bag
    put.rising put.kept (written_same old new first c before place h apart put.moved) refl refl

-- and fewer
pub taken_through :
    (old new : Arena) (first c before place after under k d : ℕ) (s : List ℕ)
    (h : HasNode (forest_in old first) c before place) → IsApart old first
    → IsTaken old (node_at old.nodes.items place).first new d after under k s
    → IsRising 0 (forest_in new (node_at old.nodes.items place).first)
    → IsTaken old first new c before place k (d ∷ s)
taken_through old new first c before place after under k d s h apart out rising =
    taken_below old new new first c before place (node_at old.nodes.items place).first k (d ∷ s) h apart out.moved out.bag
    rising out.kept (written_same old new first c before place h apart out.moved) refl refl

-- siblings rise where the nodes below a node do and it has a ballot
pub rising_below :
    (old mid new : Arena) (first c before place under : ℕ) (h : HasNode (forest_in old first) c before place)
    → IsApart old first → IsMoved old (node_at old.nodes.items place).first mid under
    → IsRising 0 (forest_in mid under) → 1 ≤ h.ends + length (bag (forest_in mid under))
    → new.nodes.items ≡ set mid.nodes.items (place - 1) (record (node_at mid.nodes.items place) { first = under })
    → new.free ≡ mid.free → new.spare ≡ mid.spare → IsRising 0 (forest_in new first)
rising_below old mid new first c before place under h apart moved rising some write free spare =
    let l : IsLaid old first new first (join h.passed (Grow c h.ends place (forest_in mid under) h.next)) =
    led_below old mid new first c before place under h apart moved write free spare in
    rising_with (forest_in old first) (forest_in new first) c before place h.ends (forest_in mid under) h l.forest rising some

-- and so where nothing is written to the node
pub rising_through :
    (old new : Arena) (first c before place : ℕ) (h : HasNode (forest_in old first) c before place) → IsApart old first
    → IsMoved old (node_at old.nodes.items place).first new (node_at old.nodes.items place).first
    → IsRising 0 (forest_in new (node_at old.nodes.items place).first)
    → 1 ≤ length (bag (forest_in new (node_at old.nodes.items place).first)) → IsRising 0 (forest_in new first)
rising_through old new first c before place h apart moved rising some =
    rising_below old new new first c before place (node_at old.nodes.items place).first h apart moved rising
    (omega (arith, some)) (written_same old new first c before place h apart moved) refl refl

-- there is a node where there is one of a candidate
pub not_empty : (f : Forest) (c before place : ℕ) → HasNode f c before place → f ≢ Empty
not_empty f c before place h none =
    omega (
      arith,
      ap node_count none,
      ap node_count h.is,
      count-join h.passed (Grow c h.ends place h.inner h.next),
    )

-- and where one of two was
one_left :
    (ranking : List ℕ) (f g : Forest) (c n p d m q : ℕ) (inner low rest : Forest) → 1 ≤ length ranking
    → f ≡ Grow c n p inner (Grow d m q low rest) → 1 ≤ p → 1 ≤ q → c < d → KeepsOthers ranking f g → g ≢ Empty
one_left [] f g c n p d m q inner low rest some is some_p some_q less kept = absurd (omega (arith, some))
one_left (r ∷ s) f g c n p d m q inner low rest some is some_p some_q less kept = λ none.
    let first : place_on 0 (c ∷ []) f ≡ p =
    ap (place_on 0 (c ∷ [])) is ∙ on_own 0 c c n p [] inner (Grow d m q low rest) refl in
    let second : place_on 0 (d ∷ []) f ≡ q =
    ap (place_on 0 (d ∷ [])) is
    ∙ (on_other 0 d c n p [] inner (Grow d m q low rest) (λ same. omega (arith, same, less))
    ∙ on_own 0 d d m q [] low rest refl) in
    elim (cases_eq r c) [
      | inl same ↦
          let stays = kept 0 (d ∷ [])
          (λ e. omega (arith, same, less, ap (λ (l : List ℕ). get_or l 0 0) e))
          (λ zero. omega (arith, zero, second, some_q)) in
          omega (arith, stays, second, some_q, ap (place_on 0 (d ∷ [])) none)
      | inr other ↦
          let stays = kept 0 (c ∷ [])
          (λ e. other (ap (λ (l : List ℕ). get_or l 0 0) e))
          (λ zero. omega (arith, zero, first, some_p)) in
          omega (arith, stays, first, some_p, ap (place_on 0 (c ∷ [])) none)
    ]

-- a firm node has a ballot where one ranking that goes on below it has gone
pub still_some :
    (a : Arena) (first c before place : ℕ) (ranking : List ℕ) (g : Forest)
    (h : HasNode (forest_in a first) c before place) → IsApart a first → IsFirm a.nodes.items place
    → 1 ≤ length ranking → KeepsOthers ranking (forest_in a (node_at a.nodes.items place).first) g → IsRising 0 g
    → 1 ≤ h.ends + length (bag g)
still_some a first c before place ranking g h apart firm long kept rising =
    let nodes = a.nodes.items in
    let n : IsNode a first c h.ends place h.passed h.inner h.next =
    node_in a first c h.ends place h.passed h.inner h.next apart h.is in
    elim firm [
      | inl ends ↦ omega (arith, ends, ap (λ (x : Node). x.ends) n.node)
      | inr two ↦
          let low = apart_below a first c before place h apart in
          let p = (node_at nodes place).first in
          let q = (node_at nodes p).next in
          let o : IsOpened nodes (forest_in a p) p = opened nodes p low.1.used two.0 in
          let v : IsOpened nodes (forest_in a q) q = opened nodes q o.next two.1 in
          let second : Forest =
          Grow (node_at nodes q).candidate (node_at nodes q).ends q (forest_at nodes (node_at nodes q).first)
          (forest_at nodes (node_at nodes q).next) in
          let is : forest_in a p
          ≡ Grow (node_at nodes p).candidate (node_at nodes p).ends p (forest_at nodes (node_at nodes p).first) second =
          o.is
          ∙ ap (λ (r : Forest). Grow (node_at nodes p).candidate (node_at nodes p).ends p
          (forest_at nodes (node_at nodes p).first) r) v.is in
          let both : IsRising 0
          (Grow (node_at nodes p).candidate (node_at nodes p).ends p (forest_at nodes (node_at nodes p).first) second) =
          subst (IsRising 0) is (subst (IsRising 0) (sym low.0) h.inner_rising) in
          let left : g ≢ Empty =
          one_left ranking (forest_in a p) g (node_at nodes p).candidate (node_at nodes p).ends p
          (node_at nodes q).candidate (node_at nodes q).ends q (forest_at nodes (node_at nodes p).first)
          (forest_at nodes (node_at nodes q).first) (forest_at nodes (node_at nodes q).next) long is two.0 two.1
          both.3.0 kept in
          omega (arith, some_ballots 0 g rising left)
    ]

-- as many ballots are held below the two candidates
pub held_below :
    (a : Arena) (first c d place : ℕ) (s : List ℕ) (b : IsBelow a first c d place)
    → IsApart a first
    → count_of s (replicate b.low.ends [] ++ bag b.low.inner) ≡ count_of (c ∷ d ∷ s) (bag (forest_in a first))
held_below a first c d place s b apart =
    let low = apart_below a first c b.before b.upper b.node apart in
    count_at (forest_in a (node_at a.nodes.items b.upper).first) d b.after place s b.low
    ∙ (ap (λ (g : Forest). count_of (d ∷ s) (bag g)) low.0
    ∙ (sym (count_of-deeper d b.node.ends s b.node.inner)
    ∙ count_at (forest_in a first) c b.before b.upper (d ∷ s) b.node))

-- the lower node is where it was
pub still_there :
    (a new : Arena) (first c d place k : ℕ) (s : List ℕ) (b : IsBelow a first c d place) → IsApart a first
    → IsTaken a first new c b.before b.upper k (d ∷ s)
    → IsTaken a (node_at a.nodes.items b.upper).first new d b.after place k s
    → place_on 0 (c ∷ d ∷ []) (forest_in new first) ≡ place
still_there a new first c d place k s b apart out low =
    let q = (node_at a.nodes.items b.upper).first in
    let same = node_same a new first c b.before b.upper b.node apart low.moved in
    let down = apart_below new first c b.before b.upper out.node out.moved.apart in
    let is : forest_in new q ≡ out.node.inner =
    ap (λ (x : Node). forest_in new x.first) (sym same) ∙ down.0 in
    leads_to 0 c b.before b.upper (d ∷ []) (forest_in new first) out.node
    ∙ (ap (place_on b.upper (d ∷ [])) (sym is) ∙ leads_to b.upper d b.after place [] (forest_in new q) low.node)
