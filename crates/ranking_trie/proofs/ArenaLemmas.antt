-- Siblings and nodes to spare, as a list of nodes is written to.
use Rattle.std.proofs.Common.{◌≡◌, ◌≢◌, ℕ, ◌+◌, ◌-◌, ◌≤◌, List, length, set, length-set}
use Rattle.std.proofs.Common.{arith, refl, ap, sym, subst, ◌∙◌}
use Rattle.ranking_trie.specs.declared.node.Node.{Node}
use Rattle.ranking_trie.specs.declared.arena.Arena.{Arena}
use Rattle.ranking_trie.specs.Arena.{forest_in, times_in, IsChain, IsApart, IsMoved, HasNode, join}
use Rattle.ranking_trie.specs.Bag.{node_count}
use Rattle.ranking_trie.specs.Forest.{Forest, Grow}
use Rattle.ranking_trie.specs.Places.{root, node_at, node_of, LiesIn, one_at, times}
use Rattle.ranking_trie.proofs.PlaceLemmas.{here, node_set_same, node_set_other, within, lies_same, forest_is}
use Rattle.ranking_trie.proofs.PlaceLemmas.{begins}
use Rattle.ranking_trie.proofs.JoinLemmas.{times-join, count-join, root-join}
use Rattle.ranking_trie.proofs.JoinLemmas.{lies_rest, lies_swap}

-- a forest that begins at a place after a change of the list
pub record IsLaid (old : Arena) (first : ℕ) (new : Arena) (begin : ℕ) (f : Forest) : Type 0 where
  pub forest : forest_in new begin ≡ f
  pub moved : IsMoved old first new begin

pub laid :
    (old new : Arena) (first begin : ℕ) (f idle : Forest) → IsApart old first
    → LiesIn new.nodes.items f → root f ≡ begin → LiesIn new.nodes.items idle → root idle ≡ new.free
    → IsChain idle → new.spare ≡ node_count idle → length new.nodes.items ≡ length old.nodes.items
    → ((q : ℕ) → times q f + times q idle ≡ times_in old first q)
    → node_count f + node_count idle ≡ node_count (forest_in old first) + old.spare
    → ((q : ℕ) → 1 ≤ q → times_in old first q ≡ 0 → node_at new.nodes.items q ≡ node_at old.nodes.items q)
    → IsLaid old first new begin f
laid old new first begin f idle apart lies at lies_idle at_idle chain spare size places count others =
    let few : node_count (forest_in old first) + old.spare ≤ length old.nodes.items = apart.few in
    let is : forest_in new begin ≡ f = forest_is new.nodes.items f begin lies at (omega arith) in
    let is_idle : forest_in new new.free ≡ idle =
    forest_is new.nodes.items idle new.free lies_idle at_idle (omega arith) in
    let now : (q : ℕ) → times_in new begin q ≡ times_in old first q =
    λ q. omega (arith, ap (times q) is, ap (times q) is_idle, places q) in
    record {
      forest = is;
      moved = record {
        apart = record {
          used = begins new.nodes.items f begin lies at (omega arith);
          idle = begins new.nodes.items idle new.free lies_idle at_idle (omega arith);
          chain = subst IsChain (sym is_idle) chain;
          apart = λ q. omega (arith, now q, apart.apart q);
          counted = spare ∙ ap node_count (sym is_idle);
          few = omega (arith, ap node_count is);
        };
        size = size;
        places = now;
        others = others;
        count = omega (arith, ap node_count is);
      };
    }

-- with no change
pub stays : (a : Arena) (first : ℕ) → IsApart a first → IsMoved a first a first
stays a first apart = record {
  apart = apart;
  size = refl;
  places = λ q. refl;
  others = λ q some none. refl;
  count = refl;
}

-- a node among siblings
pub record IsNode (a : Arena) (first c ends place : ℕ) (passed inner next : Forest) : Type 0 where
  pub some : 1 ≤ place
  pub within : place ≤ length a.nodes.items
  pub node : node_at a.nodes.items place ≡ node_of c ends inner next
  pub lies : LiesIn a.nodes.items (join passed (Grow c ends place inner next))
  pub lies_inner : LiesIn a.nodes.items inner
  pub lies_next : LiesIn a.nodes.items next
  pub parts : (q : ℕ) → times q (forest_in a first) ≡ times q passed + (one_at q place + times q inner + times q next)
  pub count : node_count (forest_in a first) ≡ node_count passed + (1 + node_count inner + node_count next)

pub node_in :
    (a : Arena) (first c ends place : ℕ) (passed inner next : Forest) → IsApart a first
    → forest_in a first ≡ join passed (Grow c ends place inner next)
    → IsNode a first c ends place passed inner next
node_in a first c ends place passed inner next apart is =
    let node : Forest = Grow c ends place inner next in
    let lies : LiesIn a.nodes.items (join passed node) = subst (LiesIn a.nodes.items) is apart.used.lies in
    let own : LiesIn a.nodes.items node = lies_rest a.nodes.items passed node lies in
    record {
      some = own.0;
      within = own.1;
      node = own.2;
      lies = lies;
      lies_inner = own.3;
      lies_next = own.4;
      parts = λ q. ap (times q) is ∙ times-join q passed node;
      count = ap node_count is ∙ count-join passed node;
    }

-- a node that has other ballots, or other nodes below it
pub refilled :
    (old new : Arena) (first c ends m place : ℕ) (passed inner low next idle : Forest) → IsApart old first
    → forest_in old first ≡ join passed (Grow c ends place inner next)
    → length new.nodes.items ≡ length old.nodes.items
    → node_at new.nodes.items place ≡ node_of c m low next
    → ((q : ℕ) → 1 ≤ q → q ≢ place → times q inner + times q (forest_in old old.free) ≡ 0
    → node_at new.nodes.items q ≡ node_at old.nodes.items q)
    → LiesIn new.nodes.items low → LiesIn new.nodes.items idle → root idle ≡ new.free → IsChain idle
    → new.spare ≡ node_count idle
    → ((q : ℕ) → times q low + times q idle ≡ times q inner + times q (forest_in old old.free))
    → node_count low + node_count idle ≡ node_count inner + old.spare
    → IsLaid old first new first (join passed (Grow c m place low next))
refilled old new first c ends m place passed inner low next idle apart is size node same lies_low lies_idle at_idle chain
    spare places count =
    let n : IsNode old first c ends place passed inner next = node_in old first c ends place passed inner next apart is in
    let own : times place (forest_in old first) ≡ times place passed + (1 + times place inner + times place next) =
    omega (arith, n.parts place, here place place refl) in
    let inside : place ≤ length old.nodes.items = n.within in
    let kept : (q : ℕ) → 1 ≤ times q passed + times q next → node_at new.nodes.items q ≡ node_at old.nodes.items q =
    λ q in_q.
    let all = apart.apart q in
    let here_q = n.parts q in
    same q
    (within old.nodes.items (forest_in old first) q apart.used.lies (omega arith)).0
    (λ e. omega (arith, all, here_q, here q place e))
    (omega (arith, all, here_q)) in
    let tail : LiesIn new.nodes.items (Grow c m place low next) = (
      n.some,
      omega arith,
      node,
      lies_low,
      lies_same old.nodes.items new.nodes.items next (omega arith) (λ q in_q. kept q (omega (arith, in_q))) n.lies_next,
    ) in
    laid old new first first (join passed (Grow c m place low next)) idle apart
    (lies_swap old.nodes.items new.nodes.items passed (Grow c ends place inner next) (Grow c m place low next)
    (omega arith) refl (λ q in_q. kept q (omega (arith, in_q))) n.lies tail)
    (root-join passed (Grow c m place low next) (Grow c ends place inner next) refl ∙ (ap root (sym is) ∙ apart.used.root))
    lies_idle at_idle chain spare size
    (λ q. omega (arith, times-join q passed (Grow c m place low next), n.parts q, places q))
    (omega (arith, count-join passed (Grow c m place low next), n.count, count))
    (λ q some none. same q some
    (λ e. omega (arith, none, n.parts q, here q place e))
    (omega (arith, none, n.parts q)))

-- a node at which another number of ballots end
pub ended :
    (old new : Arena) (first c m before place : ℕ) (h : HasNode (forest_in old first) c before place)
    → IsApart old first
    → new.nodes.items ≡ set old.nodes.items (place - 1) (record (node_at old.nodes.items place) { ends = m })
    → new.free ≡ old.free → new.spare ≡ old.spare
    → IsLaid old first new first (join h.passed (Grow c m place h.inner h.next))
ended old new first c m before place h apart write free spare =
    let x : Node = record (node_at old.nodes.items place) { ends = m } in
    let idle : Forest = forest_in old old.free in
    let n : IsNode old first c h.ends place h.passed h.inner h.next =
    node_in old first c h.ends place h.passed h.inner h.next apart h.is in
    let size : length new.nodes.items ≡ length old.nodes.items =
    ap length write ∙ length-set old.nodes.items (place - 1) x in
    let other : (q : ℕ) → 1 ≤ q → q ≢ place → node_at new.nodes.items q ≡ node_at old.nodes.items q =
    λ q some ne. ap (λ (l : List Node). node_at l q) write ∙ node_set_other old.nodes.items place q x n.some some ne in
    let kept : (f : Forest) → LiesIn old.nodes.items f → times place f ≡ 0 → LiesIn new.nodes.items f =
    λ f lies none. lies_same old.nodes.items new.nodes.items f (omega arith)
    (λ q in_q. other q (within old.nodes.items f q lies in_q).0
    (λ e. omega (arith, in_q, none, subst (λ (r : ℕ). 1 ≤ times r f) e in_q))) lies in
    let once : times place (forest_in old first) + times place idle ≤ 1 = apart.apart place in
    let own : times place (forest_in old first) ≡ times place h.passed + (1 + times place h.inner + times place h.next) =
    omega (arith, n.parts place, here place place refl) in
    refilled old new first c h.ends m place h.passed h.inner h.inner h.next idle apart h.is size
    (ap (λ (l : List Node). node_at l place) write
    ∙ (node_set_same old.nodes.items place x n.some n.within ∙ ap (λ (y : Node). record y { ends = m }) n.node))
    (λ q some ne none. other q some ne) (kept h.inner n.lies_inner (omega arith))
    (kept idle apart.idle.lies (omega arith)) (apart.idle.root ∙ sym free) apart.chain (spare ∙ apart.counted)
    (λ q. refl) (ap (λ (k : ℕ). node_count h.inner + k) (sym apart.counted))

-- the nodes below one, which are apart as it is
pub apart_below :
    (a : Arena) (first c before place : ℕ) (h : HasNode (forest_in a first) c before place) → IsApart a first
    → (forest_in a (node_at a.nodes.items place).first ≡ h.inner) × IsApart a (node_at a.nodes.items place).first
apart_below a first c before place h apart =
    let n : IsNode a first c h.ends place h.passed h.inner h.next =
    node_in a first c h.ends place h.passed h.inner h.next apart h.is in
    let few : node_count (forest_in a first) + a.spare ≤ length a.nodes.items = apart.few in
    let begin : root h.inner ≡ (node_at a.nodes.items place).first = sym (ap (λ (x : Node). x.first) n.node) in
    let fewer : node_count h.inner ≤ length a.nodes.items = omega (arith, n.count) in
    let is : forest_in a (node_at a.nodes.items place).first ≡ h.inner =
    forest_is a.nodes.items h.inner (node_at a.nodes.items place).first n.lies_inner begin fewer in (
      is,
      record {
        used = begins a.nodes.items h.inner (node_at a.nodes.items place).first n.lies_inner begin fewer;
        idle = apart.idle;
        chain = apart.chain;
        apart = λ q. omega (arith, apart.apart q, n.parts q, ap (times q) is);
        counted = apart.counted;
        few = omega (arith, n.count, ap node_count is);
      },
    )

-- other nodes below one, where these were changed first, and then the node
pub led_below :
    (old mid new : Arena) (first c before place below : ℕ) (h : HasNode (forest_in old first) c before place)
    → IsApart old first → IsMoved old (node_at old.nodes.items place).first mid below
    → new.nodes.items ≡ set mid.nodes.items (place - 1) (record (node_at mid.nodes.items place) { first = below })
    → new.free ≡ mid.free → new.spare ≡ mid.spare
    → IsLaid old first new first (join h.passed (Grow c h.ends place (forest_in mid below) h.next))
led_below old mid new first c before place below h apart moved write free spare =
    let x : Node = record (node_at mid.nodes.items place) { first = below } in
    let low : Forest = forest_in mid below in
    let idle : Forest = forest_in mid mid.free in
    let n : IsNode old first c h.ends place h.passed h.inner h.next =
    node_in old first c h.ends place h.passed h.inner h.next apart h.is in
    let was : forest_in old (node_at old.nodes.items place).first ≡ h.inner =
    (apart_below old first c before place h apart).0 in
    let mid_size : length mid.nodes.items ≡ length old.nodes.items = moved.size in
    let size : length new.nodes.items ≡ length old.nodes.items =
    ap length write ∙ (length-set mid.nodes.items (place - 1) x ∙ moved.size) in
    let other : (q : ℕ) → 1 ≤ q → q ≢ place → node_at new.nodes.items q ≡ node_at mid.nodes.items q =
    λ q some ne. ap (λ (l : List Node). node_at l q) write ∙ node_set_other mid.nodes.items place q x n.some some ne in
    let once : times place (forest_in old first) + times place (forest_in old old.free) ≤ 1 = apart.apart place in
    let own : times place (forest_in old first) ≡ times place h.passed + (1 + times place h.inner + times place h.next) =
    omega (arith, n.parts place, here place place refl) in
    let places : (q : ℕ) → times q low + times q idle ≡ times q h.inner + times q (forest_in old old.free) =
    λ q. moved.places q ∙ ap (λ (f : Forest). times q f + times q (forest_in old old.free)) was in
    let nowhere : times place low + times place idle ≡ 0 = omega (arith, places place) in
    let kept : (f : Forest) → LiesIn mid.nodes.items f → times place f ≡ 0 → LiesIn new.nodes.items f =
    λ f lies none. lies_same mid.nodes.items new.nodes.items f (omega arith)
    (λ q in_q. other q (within mid.nodes.items f q lies in_q).0
    (λ e. omega (arith, in_q, none, subst (λ (r : ℕ). 1 ≤ times r f) e in_q))) lies in
    let outside : (q : ℕ) → 1 ≤ q → times q h.inner + times q (forest_in old old.free) ≡ 0
    → node_at mid.nodes.items q ≡ node_at old.nodes.items q =
    λ q some none. moved.others q some
    (ap (λ (f : Forest). times q f + times q (forest_in old old.free)) was ∙ none) in
    let node : node_at mid.nodes.items place ≡ node_of c h.ends h.inner h.next =
    outside place n.some (omega arith) ∙ n.node in
    let begin : below ≡ root low = sym moved.apart.used.root in
    refilled old new first c h.ends h.ends place h.passed h.inner low h.next idle apart h.is size
    (ap (λ (l : List Node). node_at l place) write
    ∙ (node_set_same mid.nodes.items place x n.some (omega (arith, n.within))
    ∙ (ap (λ (y : Node). record y { first = below }) node
    ∙ ap (λ (r : ℕ). record { candidate = c; ends = h.ends; first = r; next = root h.next }) begin)))
    (λ q some ne none. other q some ne ∙ outside q some none)
    (kept low moved.apart.used.lies (omega arith)) (kept idle moved.apart.idle.lies (omega arith))
    (moved.apart.idle.root ∙ sym free) moved.apart.chain (spare ∙ moved.apart.counted) places
    (omega (arith, moved.count, ap node_count was, moved.apart.counted))
