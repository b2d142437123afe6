-- One more node to spare.
use Rattle.std.proofs.Common.{◌≡◌, ℕ, ◌+◌, ◌-◌, ◌<◌, ◌≤◌, List, [], ◌∷◌, ◌++◌, length, length-append, inl, inr}
use Rattle.std.proofs.Common.{arith, refl, ap, sym, subst, ◌∙◌}
use Rattle.std.proofs.lemmas.Bool.{cases_eq}
use Rattle.std.proofs.lemmas.List.{get_or_append_left, get_or_at}
use Rattle.ranking_trie.specs.declared.node.Node.{Node}
use Rattle.ranking_trie.specs.declared.arena.Arena.{Arena}
use Rattle.ranking_trie.specs.Arena.{forest_in, IsChain, IsApart}
use Rattle.ranking_trie.specs.Bag.{node_count}
use Rattle.ranking_trie.specs.Forest.{Forest, Empty, Grow}
use Rattle.ranking_trie.specs.Places.{node_at, LiesIn, one_at, times, forest_at, BeginsAt}
use Rattle.ranking_trie.proofs.PlaceLemmas.{here, not_here, within, lies_same, forest_is, begins, none_begins}

none_outside : (nodes : List Node) (f : Forest) (q : ℕ) → LiesIn nodes f → length nodes < q → times q f ≡ 0
none_outside nodes f q lies outside =
    elim (cases_eq (times q f) 0) [
      | inl none ↦ none
      | inr some ↦ absurd (omega (arith, (within nodes f q lies (omega (arith, some))).1))
    ]

one_at-le : (q p : ℕ) → one_at q p ≤ 1
one_at-le q p =
    elim (cases_eq q p) [ inl same ↦ omega (arith, here q p same) | inr other ↦ omega (arith, not_here q p other) ]

-- siblings stay where nodes to spare come or go
pub record IsPushed (old new : Arena) (first : ℕ) : Type 0 where
  pub forest : forest_in new first ≡ forest_in old first
  pub apart : IsApart new first

pub pushed :
    (old new : Arena) (first : ℕ) → IsApart old first
    → new.nodes.items ≡ old.nodes.items ++ (record { candidate = 0; ends = 0; first = 0; next = old.free }) ∷ []
    → new.free ≡ length old.nodes.items + 1 → new.spare ≡ old.spare + 1 → IsPushed old new first
pushed old new first apart write free spare =
    let nodes = old.nodes.items in
    let f : Forest = forest_in old first in
    let idle : Forest = forest_in old old.free in
    let x : Node = record { candidate = 0; ends = 0; first = 0; next = old.free } in
    let blank : Node = record { candidate = 0; ends = 0; first = 0; next = 0 } in
    let place = new.free in
    let size : length new.nodes.items ≡ length nodes + 1 = omega (arith, ap length write, length-append nodes (x ∷ [])) in
    let same : (g : Forest) → LiesIn nodes g → LiesIn new.nodes.items g =
    λ g lies. lies_same nodes new.nodes.items g (omega arith)
    (λ q some. ap (λ (l : List Node). node_at l q) write
    ∙ get_or_append_left nodes (x ∷ []) blank (q - 1)
    (omega (arith, (within nodes g q lies some).0, (within nodes g q lies some).1))) lies in
    let node : node_at new.nodes.items place ≡ x =
    ap (λ (l : List Node). node_at l place) write ∙ get_or_at nodes x [] blank (place - 1) (omega (arith, free)) in
    let spared : Forest = Grow 0 0 place Empty idle in
    let few : node_count f + old.spare ≤ length nodes = apart.few in
    let lies : LiesIn new.nodes.items spared = (
      omega (arith, free),
      omega (arith, free),
      node ∙ ap (λ (r : ℕ). record { candidate = 0; ends = 0; first = 0; next = r }) (sym apart.idle.root),
      tt,
      same idle apart.idle.lies,
    ) in
    let count : node_count spared ≡ new.spare = omega (arith, spare, apart.counted) in
    let is : forest_in new first ≡ f =
    forest_is new.nodes.items f first (same f apart.used.lies) apart.used.root (omega arith) in
    let is_idle : forest_in new place ≡ spared =
    forest_is new.nodes.items spared place lies refl (omega (arith, count)) in
    let chain : IsChain spared = (refl, apart.chain) in
    record {
      forest = is;
      apart = record {
        used = begins new.nodes.items f first (same f apart.used.lies) apart.used.root (omega arith);
        idle = begins new.nodes.items spared place lies refl (omega (arith, count));
        chain = subst IsChain (sym is_idle) chain;
        apart = λ q.
            elim (cases_eq q place) [
              | inl own ↦
                  omega (
                    arith,
                    ap (times q) is,
                    ap (times q) is_idle,
                    one_at-le q place,
                    none_outside nodes f q apart.used.lies (omega (arith, own, free)),
                    none_outside nodes idle q apart.idle.lies (omega (arith, own, free)),
                  )
              | inr other ↦
                  omega (
                    arith,
                    ap (times q) is,
                    ap (times q) is_idle,
                    not_here q place other,
                    apart.apart q,
                  )
            ];
        counted = sym count ∙ ap node_count (sym is_idle);
        few = omega (arith, ap node_count is);
      };
    }

-- the same list with none to spare
pub left_out :
    (old new : Arena) (first : ℕ) → IsApart old first → new.nodes.items ≡ old.nodes.items → new.free ≡ 0
    → new.spare ≡ 0 → IsPushed old new first
left_out old new first apart same free spare =
    let nodes = new.nodes.items in
    let is : forest_in new first ≡ forest_in old first = ap (λ (l : List Node). forest_at l first) same in
    let none : forest_in new new.free ≡ Empty =
    ap (forest_at nodes) free ∙ forest_is nodes Empty 0 tt refl (omega arith) in
    let few : node_count (forest_in old first) + old.spare ≤ length old.nodes.items = apart.few in
    let chain : IsChain Empty = tt in
    record {
      forest = is;
      apart = record {
        used = subst (λ (l : List Node). BeginsAt l first) (sym same) apart.used;
        idle = subst (BeginsAt nodes) (sym free) (none_begins nodes);
        chain = subst IsChain (sym none) chain;
        apart = λ q. omega (arith, ap (times q) is, ap (times q) none, apart.apart q);
        counted = spare ∙ ap node_count (sym none);
        few = omega (arith, ap node_count is, ap length same);
      };
    }
