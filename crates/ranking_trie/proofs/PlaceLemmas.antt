-- Where the nodes of a forest lie.
use Rattle.std.proofs.Common.{◌≡◌, ◌≢◌, ℕ, ◌+◌, ◌-◌, ◌≤◌, ◌⊎◌, List, length, set, zero, suc, cond}
use Rattle.std.proofs.Common.{Bool, inl, inr, arith, refl, ap, sym, subst, ◌∙◌}
use Rattle.std.proofs.lemmas.Bool.{cases_eq, eq-eqb, ne_eqb}
use Rattle.std.proofs.lemmas.List.{get_or-set_same, get_or-set_other}
use Rattle.ranking_trie.specs.declared.node.Node.{Node}
use Rattle.ranking_trie.specs.Bag.{node_count}
use Rattle.ranking_trie.specs.Forest.{Forest, Empty, Grow}
use Rattle.ranking_trie.specs.Places.{root, node_at, node_of, LiesIn, one_at, times, led, forest_at, BeginsAt}

-- a node is once at its own place
pub here : (q p : ℕ) → q ≡ p → one_at q p ≡ 1
here q p same = ap (λ (b : Bool). cond b 1 0) (eq-eqb q p same)

pub not_here : (q p : ℕ) → q ≢ p → one_at q p ≡ 0
not_here q p other = ap (λ (b : Bool). cond b 1 0) (ne_eqb q p other)

-- what a write leaves
pub node_set_same : (nodes : List Node) (p : ℕ) (x : Node) → 1 ≤ p → p ≤ length nodes → node_at (set nodes (p - 1) x) p ≡ x
node_set_same nodes p x some within =
    get_or-set_same nodes (p - 1) x (record { candidate = 0; ends = 0; first = 0; next = 0 }) (omega arith)

pub node_set_other :
    (nodes : List Node) (p q : ℕ) (x : Node) → 1 ≤ p → 1 ≤ q → q ≢ p
    → node_at (set nodes (p - 1) x) q ≡ node_at nodes q
node_set_other nodes p q x some some_q other =
    get_or-set_other nodes (p - 1) (q - 1) x (record { candidate = 0; ends = 0; first = 0; next = 0 })
    (λ same. other (omega (arith, same)))

one_of_two : (a b : ℕ) → 1 ≤ a + b → (1 ≤ a) ⊎ (1 ≤ b)
one_of_two zero b some = inr (omega arith)
one_of_two (suc a) b some = inl (omega arith)

-- nodes lie within the list
pub within : (nodes : List Node) (f : Forest) (q : ℕ) → LiesIn nodes f → 1 ≤ times q f → (1 ≤ q) × (q ≤ length nodes)
within nodes Empty q lies some = absurd (omega arith)
within nodes (Grow c n p inner next) q lies some =
    elim (cases_eq q p) [
      | inl same ↦ (omega (arith, lies.0), omega (arith, lies.1))
      | inr other ↦
          elim (one_of_two (times q inner) (times q next) (omega (arith, not_here q p other))) [
            | inl low ↦ within nodes inner q lies.3 low
            | inr behind ↦ within nodes next q lies.4 behind
          ]
    ]

-- a forest stays where nothing is written to its places
pub lies_same :
    (nodes new : List Node) (f : Forest) → length nodes ≤ length new
    → ((q : ℕ) → 1 ≤ times q f → node_at new q ≡ node_at nodes q) → LiesIn nodes f → LiesIn new f
lies_same nodes new Empty size same lies = tt
lies_same nodes new (Grow c n p inner next) size same lies =
    let inside : p ≤ length nodes = lies.1 in (
      lies.0,
      omega arith,
      same p (omega (arith, here p p refl)) ∙ lies.2,
      lies_same nodes new inner size (λ q some. same q (omega (arith, some))) lies.3,
      lies_same nodes new next size (λ q some. same q (omega (arith, some))) lies.4,
    )

-- what the place leads to is the forest that lies there
pub led_is : (nodes : List Node) (t : ℕ) (f : Forest) → LiesIn nodes f → node_count f ≤ t → led t nodes (root f) ≡ f
led_is nodes zero Empty lies few = refl
led_is nodes (suc t) Empty lies few = refl
led_is nodes zero (Grow c n p inner next) lies few = absurd (omega arith)
led_is nodes (suc t) (Grow c n zero inner next) lies few = absurd (omega (arith, lies.0))
led_is nodes (suc t) (Grow c n (suc i) inner next) lies few =
    ap (λ (x : Node). Grow x.candidate x.ends (suc i) (led t nodes x.first) (led t nodes x.next)) lies.2
    ∙ (ap (λ (g : Forest). Grow c n (suc i) g (led t nodes (root next))) (led_is nodes t inner lies.3 (omega arith))
    ∙ ap (λ (g : Forest). Grow c n (suc i) inner g) (led_is nodes t next lies.4 (omega arith)))

pub forest_is :
    (nodes : List Node) (f : Forest) (p : ℕ) → LiesIn nodes f → root f ≡ p → node_count f ≤ length nodes
    → forest_at nodes p ≡ f
forest_is nodes f p lies begin few =
    subst (λ (r : ℕ). forest_at nodes r ≡ f) begin (led_is nodes (length nodes) f lies few)

pub begins :
    (nodes : List Node) (f : Forest) (p : ℕ) → LiesIn nodes f → root f ≡ p → node_count f ≤ length nodes
    → BeginsAt nodes p
begins nodes f p lies begin few =
    let same : forest_at nodes p ≡ f = forest_is nodes f p lies begin few in
    record {
      lies = subst (LiesIn nodes) (sym same) lies;
      root = ap root same ∙ begin;
      few = omega (arith, ap node_count same);
    }

-- nothing is at 0
pub none_begins : (nodes : List Node) → BeginsAt nodes 0
none_begins nodes = begins nodes Empty 0 tt refl (omega arith)

-- the node at which siblings begin
pub record IsOpened (nodes : List Node) (f : Forest) (p : ℕ) : Type 0 where
  pub within : p ≤ length nodes
  pub is : f ≡ Grow (node_at nodes p).candidate (node_at nodes p).ends p (forest_at nodes (node_at nodes p).first)
      (forest_at nodes (node_at nodes p).next)
  pub inner : BeginsAt nodes (node_at nodes p).first
  pub next : BeginsAt nodes (node_at nodes p).next

opened_at :
    (nodes : List Node) (f : Forest) (p : ℕ) → LiesIn nodes f → root f ≡ p → node_count f ≤ length nodes
    → 1 ≤ p → IsOpened nodes f p
opened_at nodes Empty p lies begin few some = absurd (omega arith)
opened_at nodes (Grow c n k inner next) p lies begin few some =
    let node : node_at nodes p ≡ node_of c n inner next =
    subst (λ (r : ℕ). node_at nodes r ≡ node_of c n inner next) begin lies.2 in
    let first : root inner ≡ (node_at nodes p).first = sym (ap (λ (x : Node). x.first) node) in
    let behind : root next ≡ (node_at nodes p).next = sym (ap (λ (x : Node). x.next) node) in
    let low : forest_at nodes (node_at nodes p).first ≡ inner =
    forest_is nodes inner (node_at nodes p).first lies.3 first (omega arith) in
    let rest : forest_at nodes (node_at nodes p).next ≡ next =
    forest_is nodes next (node_at nodes p).next lies.4 behind (omega arith) in
    let inside : k ≤ length nodes = lies.1 in
    record {
      within = omega arith;
      is =
          ap (λ (r : ℕ). Grow c n r inner next) begin
          ∙ (ap (λ (x : Node). Grow x.candidate x.ends p inner next) (sym node)
          ∙ (ap (λ (g : Forest). Grow (node_at nodes p).candidate (node_at nodes p).ends p g next) (sym low)
          ∙ ap (λ (g : Forest). Grow (node_at nodes p).candidate (node_at nodes p).ends p
          (forest_at nodes (node_at nodes p).first) g) (sym rest)));
      inner = begins nodes inner (node_at nodes p).first lies.3 first (omega arith);
      next = begins nodes next (node_at nodes p).next lies.4 behind (omega arith);
    }

pub opened : (nodes : List Node) (p : ℕ) → BeginsAt nodes p → 1 ≤ p → IsOpened nodes (forest_at nodes p) p
opened nodes p at some = opened_at nodes (forest_at nodes p) p at.lies at.root at.few some

-- siblings that begin at 0 are none
pub root_none : (f : Forest) (nodes : List Node) → LiesIn nodes f → root f ≡ 0 → f ≡ Empty
root_none Empty nodes lies none = refl
root_none (Grow c n p inner next) nodes lies none = absurd (omega (arith, lies.0, none))
