-- Nodes of one candidate, without their first rows.
use Rattle.std.proofs.Common.{◌≡◌, ℕ, ◌+◌, ◌*◌, ◌≤◌, List, [], ◌∷◌, ◌++◌, length, map, drop, get_or, sum_by}
use Rattle.std.proofs.Common.{replicate, arith, refl, ap, sym, subst, ◌∙◌}
use Rattle.std.specs.List.{All}
use Rattle.std.proofs.lemmas.List.{append-nil, length-append, length-drop}
use Rattle.std.proofs.lemmas.List.Elements.{All-nil, All-cons, All-head, All-tail}
use Rattle.std.proofs.lemmas.List.Folds.{sum_by-replicate}
use Rattle.std.proofs.lemmas.List.Sums.{sum_by-append, sum_by-cons}
use Rattle.std.proofs.Math.Nat.{add-mul}
use Rattle.frozen_plan.specs.declared.plan_row.PlanRow.{PlanRow}
use Rattle.frozen_plan.specs.Forest.{Forest, Bare, Grown, ballots_of, IsGrown, nodes_of}
use Rattle.frozen_plan.proofs.ReadLemmas.{length-ballots_of}
use Rattle.vote_spread.specs.Packed.{AreRows}
use Rattle.vote_spread.specs.Merged.{first_ballots, part_ballots, AreParts, IsAlone}
use Rattle.vote_spread.proofs.RowLemmas.{nodes_of-rows_of}
use Rattle.vote_spread.proofs.PackLemmas.{one_node, below_node}
use Rattle.vote_spread.proofs.PartLemmas.{counted_by, part-cons}

-- what ballots give that all begin with candidate c
sum_behind : (f : List ℕ → ℕ) (c : ℕ) (xs : List (List ℕ)) → sum_by f (map (λ r. c ∷ r) xs) ≡ sum_by (λ r. f (c ∷ r)) xs
sum_behind f c [] = refl
sum_behind f c (x ∷ xs) =
    omega (
      arith,
      sum_behind f c xs,
      sum_by-cons f (c ∷ x) (map (λ r. c ∷ r) xs),
      sum_by-cons (λ (r : List ℕ). f (c ∷ r)) x xs,
    )

sum_ended : (f : List ℕ → ℕ) (k : ℕ) (xs : List (List ℕ)) → sum_by f (replicate k [] ++ xs) ≡ k * f [] + sum_by f xs
sum_ended f k xs = sum_by-append f (replicate k []) xs ∙ ap (λ m. m + sum_by f xs) (sum_by-replicate f k [])

pub record AreOpened (n d c : ℕ) (nodes : List (List PlanRow)) : Type 0 where
  pub ends : ℕ
  pub below : All (AreRows n (d + 1)) (map (λ rows. drop 1 rows) nodes)
  pub counted : sum_by first_ballots nodes ≡ ends + length (part_ballots (map (λ rows. drop 1 rows) nodes))
  pub both :
      (f : List ℕ → ℕ)
      → sum_by f (part_ballots nodes)
      ≡ sum_by f (map (λ r. c ∷ r) (replicate ends [] ++ part_ballots (map (λ rows. drop 1 rows) nodes)))
  pub shorter :
      sum_by (λ (r : List PlanRow). length r) (map (λ rows. drop 1 rows) nodes) + length nodes
      ≡ sum_by (λ (r : List PlanRow). length r) nodes
  pub known : 1 ≤ length nodes → (1 ≤ c) × ((c ≤ n) × (d ≤ 250))

-- one node
record IsOpened (n d c : ℕ) (rows : List PlanRow) : Type 0 where
  pub ends : ℕ
  pub below : AreRows n (d + 1) (drop 1 rows)
  pub counted : first_ballots rows ≡ ends + length (ballots_of (nodes_of (drop 1 rows)))
  pub both :
      (f : List ℕ → ℕ)
      → sum_by f (ballots_of (nodes_of rows))
      ≡ ends * f (c ∷ []) + sum_by (λ r. f (c ∷ r)) (ballots_of (nodes_of (drop 1 rows)))
  pub shorter : length (drop 1 rows) + 1 ≡ length rows
  pub known : (1 ≤ c) × ((c ≤ n) × (d ≤ 250))

opened_one : (n d c : ℕ) (rows : List PlanRow) (e : PlanRow) → AreRows n d rows → IsAlone c rows → IsOpened n d c rows
opened_one n d c rows e are alone =
    let o = one_node n d rows e are alone.some (alone.whole e) in
    let k = o.ends in
    let inner = o.inner in
    let named : o.candidate ≡ c = sym (ap (λ (l : List PlanRow). (get_or l 0 e).candidate) o.are) ∙ alone.candidate e in
    let whole : IsGrown n are.low d (Grown o.candidate k inner Bare) = subst (IsGrown n are.low d) o.says are.grown in
    let inner_is : nodes_of (drop 1 rows) ≡ inner =
    ap (λ (l : List PlanRow). nodes_of (drop 1 l)) o.are ∙ nodes_of-rows_of (d + 1) inner in
    let own : ballots_of (nodes_of rows) ≡ map (λ r. c ∷ r) (replicate k [] ++ ballots_of inner) =
    ap ballots_of o.says
    ∙ (append-nil (map (λ r. o.candidate ∷ r) (replicate k [] ++ ballots_of inner))
    ∙ ap (λ (m : ℕ). map (λ r. m ∷ r) (replicate k [] ++ ballots_of inner)) named) in
    record {
      ends = k;
      below = below_node n d rows are o;
      counted =
          ap first_ballots o.are
          ∙ ap (λ m. k + m)
          (sym (ap (λ (g : Forest). length (ballots_of g)) inner_is ∙ length-ballots_of inner));
      both =
          λ f. ap (sum_by f) own
          ∙ (sum_behind f c (replicate k [] ++ ballots_of inner)
          ∙ (sum_ended (λ r. f (c ∷ r)) k (ballots_of inner)
          ∙ ap (λ (g : Forest). k * f (c ∷ []) + sum_by (λ r. f (c ∷ r)) (ballots_of g)) (sym inner_is)));
      shorter = omega (arith, length-drop 1 rows, alone.some);
      known = (omega (arith, whole.0, named), (omega (arith, whole.1, named), omega (arith, whole.2)));
    }

pub opened :
    (n d c : ℕ) (nodes : List (List PlanRow)) (e : PlanRow) → All (AreRows n d) nodes → All (IsAlone c) nodes
    → AreOpened n d c nodes
opened n d c [] e are alone = record {
  ends = 0;
  below = All-nil (AreRows n (d + 1));
  counted = refl;
  both = λ f. refl;
  shorter = refl;
  known = λ some. absurd (omega (arith, some));
}
opened n d c (rows ∷ nodes) e are alone =
    let long : List PlanRow → ℕ = λ r. length r in
    let one = opened_one n d c rows e (All-head (AreRows n d) rows nodes are) (All-head (IsAlone c) rows nodes alone) in
    let more = opened n d c nodes e (All-tail (AreRows n d) rows nodes are) (All-tail (IsAlone c) rows nodes alone) in
    let low = map (λ (r : List PlanRow). drop 1 r) nodes in
    let here = ballots_of (nodes_of (drop 1 rows)) in
    record {
      ends = one.ends + more.ends;
      below = All-cons (AreRows n (d + 1)) (drop 1 rows) low one.below more.below;
      counted =
          omega (
            arith,
            one.counted,
            more.counted,
            sum_by-cons first_ballots rows nodes,
            length-append here (part_ballots low),
          );
      both =
          λ f.
          let g : List ℕ → ℕ = λ r. f (c ∷ r) in
          let all =
          sum_behind f c (replicate (one.ends + more.ends) [] ++ (here ++ part_ballots low))
          ∙ (sum_ended g (one.ends + more.ends) (here ++ part_ballots low)
          ∙ ap (λ m. (one.ends + more.ends) * f (c ∷ []) + m)
          (sum_by-append g here (part_ballots low))) in
          let rest =
          more.both f
          ∙ (sum_behind f c (replicate more.ends [] ++ part_ballots low)
          ∙ sum_ended g more.ends (part_ballots low)) in
          omega (arith, part-cons f rows nodes, one.both f, rest, all, add-mul one.ends more.ends (f (c ∷ [])));
      shorter = omega (arith, one.shorter, more.shorter, sum_by-cons long rows nodes, sum_by-cons long (drop 1 rows) low);
      known = λ some. one.known;
    }

-- nodes of one candidate are below what there may be
pub record MayOpen (d c : ℕ) (nodes : List (List PlanRow)) : Type 0 where
  pub few : sum_by first_ballots nodes ≤ 999999999
  pub below : AreParts (d + 1) (map (λ rows. drop 1 rows) nodes)
  pub shorter :
      sum_by (λ (r : List PlanRow). length r) (map (λ rows. drop 1 rows) nodes) + 1
      ≤ sum_by (λ (r : List PlanRow). length r) nodes
  pub known : c ≤ 250
  pub shallow : d ≤ 250

pub may_open :
    (d c : ℕ) (nodes : List (List PlanRow)) (e : PlanRow) → 1 ≤ length nodes → AreParts d nodes
    → All (IsAlone c) nodes → MayOpen d c nodes
may_open d c nodes e some are alone =
    let one : List ℕ → ℕ = λ x. 1 in
    let o = opened 250 d c nodes e are.each alone in
    let low = map (λ (rows : List PlanRow). drop 1 rows) nodes in
    let all : sum_by one (part_ballots nodes) ≡ o.ends * 1 + sum_by one (part_ballots low) =
    o.both one ∙ (sum_behind one c (replicate o.ends [] ++ part_ballots low) ∙ sum_ended one o.ends (part_ballots low)) in
    let whole = counted_by (part_ballots nodes) in
    let part = counted_by (part_ballots low) in
    let k = o.known some in
    record {
      few = omega (arith, all, whole, part, o.counted, are.few);
      below = record { each = o.below; few = omega (arith, all, whole, part, are.few) };
      shorter = omega (arith, o.shorter, some);
      known = omega (arith, k.1.0);
      shallow = omega (arith, k.1.1);
    }
