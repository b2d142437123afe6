-- A node that comes among siblings.
use Rattle.std.proofs.Common.{◌≡◌, ◌≢◌, ℕ, ◌+◌, ◌-◌, ◌≤◌, List, length, set, length-set, inl, inr}
use Rattle.std.proofs.Common.{arith, refl, ap, sym, subst, ◌∙◌}
use Rattle.std.proofs.lemmas.Bool.{cases_eq}
use Rattle.ranking_trie.specs.declared.node.Node.{Node}
use Rattle.ranking_trie.specs.declared.arena.Arena.{Arena}
use Rattle.ranking_trie.specs.Arena.{forest_in, IsChain, IsApart, IsMoved, IsPassed, HasNode, join, last_place}
use Rattle.ranking_trie.specs.Bag.{bag, node_count, IsRising}
use Rattle.ranking_trie.specs.Forest.{Forest, Empty, Grow}
use Rattle.ranking_trie.specs.Fronts.{KeepsPlaces}
use Rattle.ranking_trie.specs.Places.{root, node_at, LiesIn, one_at, times, forest_at, BeginsAt}
use Rattle.ranking_trie.proofs.PlaceLemmas.{here, node_set_same, node_set_other, within, lies_same}
use Rattle.ranking_trie.proofs.PlaceLemmas.{IsOpened, opened, root_none}
use Rattle.ranking_trie.proofs.JoinLemmas.{times-join, count-join, bag-join, root-join_some, last_in, none_last}
use Rattle.ranking_trie.proofs.JoinLemmas.{lies_link, rising_front}
use Rattle.ranking_trie.proofs.ArenaLemmas.{IsLaid, laid}
use Rattle.ranking_trie.proofs.PathLemmas.{keeps_new, keeps_join, keeps_is}

-- siblings that were led to others
pub record IsLinked (mid new : List Node) (passed : Forest) (begin : ℕ) (f : Forest) : Type 0 where
  pub lies : LiesIn new f
  pub root : root f ≡ begin
  pub size : length new ≡ length mid
  pub others : (q : ℕ) → 1 ≤ q → times q passed ≡ 0 → node_at new q ≡ node_at mid q

pub linked :
    (nodes mid new : List Node) (passed was rest : Forest) (before to first begin : ℕ)
    → length mid ≡ length nodes → LiesIn nodes (join passed was) → last_place passed ≡ before
    → root (join passed was) ≡ first → root rest ≡ to → ((q : ℕ) → times q passed + times q rest ≤ 1)
    → ((q : ℕ) → 1 ≤ times q passed → node_at mid q ≡ node_at nodes q) → LiesIn mid rest
    → (before ≡ 0 → begin ≡ to) → (before ≡ 0 → new ≡ mid) → (1 ≤ before → begin ≡ first)
    → (1 ≤ before → new ≡ set mid (before - 1) (record (node_at mid before) { next = to }))
    → IsLinked mid new passed begin (join passed rest)
linked nodes mid new passed was rest before to first begin size lies last at_first at_rest once same lies_rest none_begin
    none_new some_begin some_new =
    elim (cases_eq before 0) [
      | inl zero ↦
          let empty : passed ≡ Empty = none_last nodes passed was lies (last ∙ zero) in
          let e : new ≡ mid = none_new zero in
          record {
            lies =
                subst (λ (a : Forest). LiesIn new (join a rest)) (sym empty)
                (subst (λ (l : List Node). LiesIn l rest) (sym e) lies_rest);
            root = ap (λ (a : Forest). root (join a rest)) empty ∙ (at_rest ∙ sym (none_begin zero));
            size = ap length e;
            others = λ q some none. ap (λ (l : List Node). node_at l q) e;
          }
      | inr other ↦
          let some : 1 ≤ before = omega (arith, other) in
          let x : Node = record (node_at mid before) { next = to } in
          let e : new ≡ set mid (before - 1) x = some_new some in
          let found : 1 ≤ times before passed =
          subst (λ (r : ℕ). 1 ≤ times r passed) last (last_in passed (omega (arith, last))) in
          let inside =
          within nodes (join passed was) before lies (omega (arith, found, times-join before passed was)) in
          let long : length new ≡ length mid = ap length e ∙ length-set mid (before - 1) x in
          let beside : (q : ℕ) → 1 ≤ q → q ≢ before → node_at new q ≡ node_at mid q =
          λ q in_q ne. ap (λ (l : List Node). node_at l q) e ∙ node_set_other mid before q x some in_q ne in
          let led : node_at new before ≡ record (node_at nodes before) { next = root rest } =
          ap (λ (l : List Node). node_at l before) e
          ∙ (node_set_same mid before x some (omega (arith, inside.1))
          ∙ (ap (λ (y : Node). record y { next = to }) (same before found)
          ∙ ap (λ (r : ℕ). record (node_at nodes before) { next = r }) (sym at_rest))) in
          let apart : (q : ℕ) → 1 ≤ times q rest → q ≢ before =
          λ q in_q x. omega (arith, found, once before, subst (λ (r : ℕ). 1 ≤ times r rest) x in_q) in
          record {
            lies =
                lies_link nodes new passed was rest before (omega arith) last some (λ q. omega (arith, once q))
                (λ q in_q ne. beside q
                (within nodes (join passed was) q lies (omega (arith, in_q, times-join q passed was))).0 ne
                ∙ same q in_q)
                led lies
                (lies_same mid new rest (omega arith)
                (λ q in_q. beside q (within mid rest q lies_rest in_q).0 (apart q in_q)) lies_rest);
            root = root-join_some passed rest was (omega (arith, last)) ∙ (at_first ∙ sym (some_begin some));
            size = long;
            others = λ q in_q none. beside q in_q
                (λ x. omega (arith, found, none, subst (λ (r : ℕ). times r passed ≡ 0) x none));
          }
    ]

-- the first node to spare, and those after it
pub record IsSpare (a : Arena) (next : Forest) : Type 0 where
  pub some : 1 ≤ a.free
  pub within : a.free ≤ length a.nodes.items
  pub lies : LiesIn a.nodes.items next
  pub root : root next ≡ (node_at a.nodes.items a.free).next
  pub chain : IsChain next
  pub times : (q : ℕ) → times q (forest_in a a.free) ≡ one_at q a.free + times q next
  pub count : a.spare ≡ 1 + node_count next

some_root : (f : Forest) (nodes : List Node) (p : ℕ) → LiesIn nodes f → root f ≡ p → 1 ≤ node_count f → 1 ≤ p
some_root Empty nodes p lies at some = absurd (omega arith)
some_root (Grow c n k inner next) nodes p lies at some = omega (arith, lies.0, at)

pub spare_opened :
    (a : Arena) (first : ℕ) → IsApart a first → 1 ≤ a.spare
    → IsSpare a (forest_at a.nodes.items (node_at a.nodes.items a.free).next)
spare_opened a first apart some_spare =
    let nodes = a.nodes.items in
    let s : Forest = forest_in a a.free in
    let some : 1 ≤ a.free =
    some_root s nodes a.free apart.idle.lies apart.idle.root (omega (arith, apart.counted)) in
    let o : IsOpened nodes s a.free = opened nodes a.free apart.idle some in
    let inner : Forest = forest_at nodes (node_at nodes a.free).first in
    let next : Forest = forest_at nodes (node_at nodes a.free).next in
    let node : Forest = Grow (node_at nodes a.free).candidate (node_at nodes a.free).ends a.free inner next in
    let chain : IsChain node = subst IsChain o.is apart.chain in
    let empty : inner ≡ Empty = chain.0 in
    record {
      some = some;
      within = o.within;
      lies = o.next.lies;
      root = o.next.root;
      chain = chain.1;
      times = λ q. omega (arith, ap (times q) o.is, ap (times q) empty);
      count = omega (arith, apart.counted, ap node_count o.is, ap node_count empty);
    }

begin_within : (nodes : List Node) (f : Forest) (p : ℕ) → LiesIn nodes f → root f ≡ p → p ≤ length nodes
begin_within nodes Empty p lies at = omega (arith, at)
begin_within nodes (Grow c n k inner next) p lies at = omega (arith, lies.1, at)

-- a place at which siblings begin is in the list, or none
pub place_within : (nodes : List Node) (p : ℕ) → BeginsAt nodes p → p ≤ length nodes
place_within nodes p begin = begin_within nodes (forest_at nodes p) p begin.lies begin.root

-- the last of passed siblings too
pub before_within :
    (nodes : List Node) (first c before at : ℕ) → BeginsAt nodes first → IsPassed nodes first c before at
    → before ≤ length nodes
before_within nodes first c before at begin p =
    elim (cases_eq before 0) [
      | inl zero ↦ omega (arith, zero)
      | inr other ↦
          let found : 1 ≤ times before p.passed =
          subst (λ (r : ℕ). 1 ≤ times r p.passed) p.last (last_in p.passed (omega (arith, p.last, other))) in
          (within nodes (forest_at nodes first) before begin.lies
          (omega (arith, found, ap (times before) p.is, times-join before p.passed (forest_at nodes at)))).1
    ]

-- the node of a candidate that was there
pub node_found :
    (a : Arena) (first c before at : ℕ) → IsApart a first → IsRising 0 (forest_in a first)
    → IsPassed a.nodes.items first c before at → IsRising (c - 1) (forest_in a at) → 1 ≤ at
    → (node_at a.nodes.items at).candidate ≡ c → HasNode (forest_in a first) c before at
node_found a first c before at apart rising p above some own =
    let nodes = a.nodes.items in
    let o : IsOpened nodes (forest_in a at) at = opened nodes at p.rest some in
    let ends = (node_at nodes at).ends in
    let inner = forest_at nodes (node_at nodes at).first in
    let next = forest_at nodes (node_at nodes at).next in
    let is : forest_in a at ≡ Grow c ends at inner next =
    o.is ∙ ap (λ (d : ℕ). Grow d ends at inner next) own in
    let node : IsRising (c - 1) (Grow c ends at inner next) = subst (IsRising (c - 1)) is above in
    record {
      ends = ends;
      passed = p.passed;
      inner = inner;
      next = next;
      is = p.is ∙ ap (join p.passed) is;
      last = p.last;
      passed_rising = rising_front 0 p.passed (forest_in a at) (subst (IsRising 0) p.is rising);
      under = p.under;
      inner_rising = node.2;
      next_rising = node.3;
    }

-- siblings after a candidate that has no node
pub rising_behind :
    (nodes : List Node) (c at : ℕ) → BeginsAt nodes at → IsRising (c - 1) (forest_at nodes at)
    → (1 ≤ at → (node_at nodes at).candidate ≢ c) → IsRising c (forest_at nodes at)
rising_behind nodes c at begin above other =
    elim (cases_eq at 0) [
      | inl zero ↦
          let is : forest_at nodes at ≡ Empty =
          root_none (forest_at nodes at) nodes begin.lies (begin.root ∙ zero) in
          let none : IsRising c Empty = tt in
          subst (IsRising c) (sym is) none
      | inr more ↦
          let some : 1 ≤ at = omega (arith, more) in
          let o : IsOpened nodes (forest_at nodes at) at = opened nodes at begin some in
          let d = (node_at nodes at).candidate in
          let node : Forest =
          Grow d (node_at nodes at).ends at (forest_at nodes (node_at nodes at).first)
          (forest_at nodes (node_at nodes at).next) in
          let here : IsRising (c - 1) node = subst (IsRising (c - 1)) o.is above in
          let ne : d ≢ c = other some in
          let on : IsRising c node = (omega (arith, here.0, ne), here.1, here.2, here.3) in
          subst (IsRising c) (sym o.is) on
    ]

-- a new node of a candidate
pub record IsHung (old : Arena) (first : ℕ) (new : Arena) (begin c before place : ℕ) : Type 0 where
  pub moved : IsMoved old first new begin
  pub node : HasNode (forest_in new begin) c before place
  pub bag : bag (forest_in new begin) ≡ bag (forest_in old first)
  pub kept : KeepsPlaces (forest_in old first) (forest_in new begin)

pub hung :
    (old mid new : Arena) (first c before at begin : ℕ) → IsApart old first → IsRising 0 (forest_in old first)
    → IsPassed old.nodes.items first c before at → IsRising (c - 1) (forest_in old at)
    → (1 ≤ at → (node_at old.nodes.items at).candidate ≢ c) → 1 ≤ old.spare
    → mid.nodes.items
    ≡ set old.nodes.items (old.free - 1) (record { candidate = c; ends = 0; first = 0; next = at })
    → mid.free ≡ (node_at old.nodes.items old.free).next → mid.spare + 1 ≡ old.spare
    → (before ≡ 0 → begin ≡ old.free) → (before ≡ 0 → new.nodes.items ≡ mid.nodes.items)
    → (1 ≤ before → begin ≡ first)
    → (1 ≤ before → new.nodes.items
    ≡ set mid.nodes.items (before - 1) (record (node_at mid.nodes.items before) { next = old.free }))
    → new.free ≡ mid.free → new.spare ≡ mid.spare → IsHung old first new begin c before old.free
hung old mid new first c before at begin apart rising p above other some_spare write mid_free mid_spare none_begin none_new
    some_begin some_new new_free new_spare =
    let nodes = old.nodes.items in
    let place = old.free in
    let rest : Forest = forest_in old at in
    let idle : Forest = forest_at nodes (node_at nodes old.free).next in
    let x : Node = record { candidate = c; ends = 0; first = 0; next = at } in
    let s : IsSpare old idle = spare_opened old first apart some_spare in
    let node : Forest = Grow c 0 place Empty rest in
    let behind : IsRising c rest = rising_behind nodes c at p.rest above other in
    let parts : (q : ℕ) → times q (forest_in old first) ≡ times q p.passed + times q rest =
    λ q. ap (times q) p.is ∙ times-join q p.passed rest in
    let mid_size : length mid.nodes.items ≡ length nodes = ap length write ∙ length-set nodes (place - 1) x in
    let beside : (q : ℕ) → 1 ≤ q → q ≢ place → node_at mid.nodes.items q ≡ node_at nodes q =
    λ q some ne. ap (λ (l : List Node). node_at l q) write ∙ node_set_other nodes place q x s.some some ne in
    let once_place : times place (forest_in old first) + times place (forest_in old old.free) ≤ 1 = apart.apart place in
    let own : times place (forest_in old old.free) ≡ 1 + times place idle =
    omega (arith, s.times place, here place place refl) in
    let nowhere : times place p.passed + times place rest ≡ 0 = omega (arith, parts place) in
    let lies : LiesIn nodes (join p.passed rest) = subst (LiesIn nodes) p.is apart.used.lies in
    let kept : (f : Forest) → LiesIn nodes f → times place f ≡ 0 → LiesIn mid.nodes.items f =
    λ f lies_f none. lies_same nodes mid.nodes.items f (omega arith)
    (λ q in_q. beside q (within nodes f q lies_f in_q).0
    (λ e. omega (arith, in_q, none, subst (λ (r : ℕ). 1 ≤ times r f) e in_q))) lies_f in
    let lies_node : LiesIn mid.nodes.items node = (
      s.some,
      omega (arith, s.within),
      ap (λ (l : List Node). node_at l place) write
          ∙ (node_set_same nodes place x s.some s.within
          ∙ ap (λ (r : ℕ). record { candidate = c; ends = 0; first = 0; next = r }) (sym p.rest.root)),
      tt,
      kept rest p.rest.lies (omega arith),
    ) in
    let l : IsLinked mid.nodes.items new.nodes.items p.passed begin (join p.passed node) =
    linked nodes mid.nodes.items new.nodes.items p.passed rest node before place first begin mid_size lies p.last
    (ap root (sym p.is) ∙ apart.used.root) refl
    (λ q. omega (arith, apart.apart q, parts q, s.times q))
    (λ q in_q. beside q
    (within nodes (forest_in old first) q apart.used.lies (omega (arith, in_q, parts q))).0
    (λ e. omega (arith, in_q, nowhere, subst (λ (r : ℕ). 1 ≤ times r p.passed) e in_q)))
    lies_node none_begin none_new some_begin some_new in
    let kept_idle : LiesIn new.nodes.items idle =
    lies_same mid.nodes.items new.nodes.items idle (omega (arith, l.size))
    (λ q in_q. l.others q (within nodes idle q s.lies in_q).0
    (omega (arith, in_q, apart.apart q, parts q, s.times q)))
    (kept idle s.lies (omega arith)) in
    let done : IsLaid old first new begin (join p.passed node) =
    laid old new first begin (join p.passed node) idle apart l.lies l.root kept_idle
    (s.root ∙ sym (new_free ∙ mid_free)) s.chain (omega (arith, s.count)) (l.size ∙ mid_size)
    (λ q. omega (arith, times-join q p.passed node, parts q, s.times q))
    (omega (arith, count-join p.passed node, ap node_count p.is, count-join p.passed rest, s.count))
    (λ q some none. l.others q some (omega (arith, none, parts q))
    ∙ beside q some (λ e. omega (arith, none, s.times q, here q place e))) in
    record {
      moved = done.moved;
      node = record {
        ends = 0;
        passed = p.passed;
        inner = Empty;
        next = rest;
        is = done.forest;
        last = p.last;
        passed_rising = rising_front 0 p.passed rest (subst (IsRising 0) p.is rising);
        under = p.under;
        inner_rising = tt;
        next_rising = behind;
      };
      bag = ap bag done.forest ∙ (bag-join p.passed node ∙ (sym (bag-join p.passed rest) ∙ ap bag (sym p.is)));
      kept =
          keeps_is (forest_in old first) (forest_in new begin) (join p.passed rest) (join p.passed node) p.is
          done.forest (keeps_join p.passed rest node (keeps_new c place rest behind));
    }
