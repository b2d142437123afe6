-- The steps of packing rows.
use Rattle.std.proofs.Common.{◌≡◌, ℕ, ◌+◌, ◌-◌, ◌≤◌, List, [], ◌∷◌, ◌++◌, length, get_or, set, drop, take}
use Rattle.std.proofs.Common.{map, replicate, arith, refl, ap, sym, subst, ◌∙◌, append_assoc}
use Rattle.std.proofs.lemmas.List.{append-nil, length-append, nil_from_length, set_at, get_or_at}
use Rattle.frozen_plan.specs.declared.plan_row.PlanRow.{PlanRow}
use Rattle.frozen_plan.specs.Forest.{Forest, Bare, Grown, ballots_of, through, rows_of, IsGrown, nodes_of}
use Rattle.frozen_plan.proofs.ReadLemmas.{length-ballots_of}
use Rattle.vote_spread.specs.Stem.{Stem, stem_of_row, closed_stem}
use Rattle.vote_spread.specs.Packed.{StandFor, AreRows, HasAdded}
use Rattle.vote_spread.proofs.StandLemmas.{stand-nothing, stand-append, stand-node}
use Rattle.vote_spread.proofs.RowLemmas.{nodes_of-rows_of, rows_of_forest, parted_rows}

-- Of rows at depth d of n candidates, those before `rest` are packed.
pub record ArePacked (n d : ℕ) (rows rest : List PlanRow) (added : List Stem) : Type 0 where
  pub done : List (List ℕ)
  pub stand : StandFor n d added done
  pub ballots : done ++ ballots_of (nodes_of rest) ≡ ballots_of (nodes_of rows)
  pub low : ℕ
  pub grown : IsGrown n low d (nodes_of rest)

pub record IsUnderway (d : ℕ) (rows rest : List PlanRow) (old now : List Stem) : Type 0 where
  pub are : AreRows 250 d rest
  pub added : List Stem
  pub is : now ≡ old ++ added
  pub packed : (n low : ℕ) → IsGrown n low d (nodes_of rows) → ArePacked n d rows rest added

pub underway-begin : (d : ℕ) (rows : List PlanRow) (old : List Stem) → AreRows 250 d rows → IsUnderway d rows rows old old
underway-begin d rows old are = record {
  are = are;
  added = [];
  is = sym (append-nil old);
  packed = λ n low grown. record { done = []; stand = stand-nothing n d; ballots = refl; low = low; grown = grown };
}

pub underway-next :
    (d : ℕ) (rows rest : List PlanRow) (old now next : List Stem) (e : PlanRow)
    → IsUnderway d rows rest old now → 1 ≤ length rest
    → HasAdded d (take (get_or rest 0 e).skip rest) now next
    → IsUnderway d rows (drop (get_or rest 0 e).skip rest) old next
underway-next d rows rest old now next e under some has =
    let skip = (get_or rest 0 e).skip in
    let parted = parted_rows 250 d rest e under.are some in
    record {
      are = parted.behind;
      added = under.added ++ has.added;
      is = has.is ∙ (ap (λ l. l ++ has.added) under.is ∙ append_assoc old under.added has.added);
      packed =
          λ n low grown.
          let p = under.packed n low grown in
          let here : AreRows n d rest =
          record { preorder = under.are.preorder; low = p.low; grown = p.grown; few = under.are.few } in
          let q = parted_rows n d rest e here some in
          record {
            done = p.done ++ ballots_of (nodes_of (take skip rest));
            stand =
                stand-append n d under.added has.added p.done (ballots_of (nodes_of (take skip rest))) p.stand
                (has.stand n q.node.low q.node.grown);
            ballots =
                append_assoc p.done (ballots_of (nodes_of (take skip rest)))
                (ballots_of (nodes_of (drop skip rest)))
                ∙ (ap (λ l. p.done ++ l) (sym q.ballots) ∙ p.ballots);
            low = q.behind.low;
            grown = q.behind.grown;
          };
    }

pub underway-end :
    (d : ℕ) (rows rest : List PlanRow) (old now : List Stem) → IsUnderway d rows rest old now
    → length rest ≡ 0 → HasAdded d rows old now
underway-end d rows rest old now under none = record {
  added = under.added;
  is = under.is;
  stand =
      λ n low grown.
      let p = under.packed n low grown in
      let nil : ballots_of (nodes_of rest) ≡ [] = ap (λ l. ballots_of (nodes_of l)) (nil_from_length rest none) in
      subst (StandFor n d under.added) (sym (append-nil p.done) ∙ (ap (λ l. p.done ++ l) (sym nil) ∙ p.ballots)) p.stand;
}

-- The rows of one node and of those below it.
pub record IsOne (d : ℕ) (rows : List PlanRow) : Type 0 where
  pub candidate : ℕ
  pub ends : ℕ
  pub inner : Forest
  pub says : nodes_of rows ≡ Grown candidate ends inner Bare
  pub are :
      rows
      ≡ record {
        depth = d;
        candidate = candidate;
        ballots = ends + through inner;
        skip = length (rows_of (d + 1) inner) + 1;
      } ∷ rows_of (d + 1) inner

one_forest :
    (d : ℕ) (f : Forest) (e : PlanRow) → 1 ≤ length (rows_of d f)
    → (get_or (rows_of d f) 0 e).skip ≡ length (rows_of d f) → IsOne d (rows_of d f)
one_forest d Bare e some one = absurd (omega arith)
one_forest d (Grown c k inner (Grown c' k' inner' next')) e some one =
    let below = rows_of (d + 1) inner in
    absurd (omega (arith, length-append below (rows_of d (Grown c' k' inner' next'))))
one_forest d (Grown c k inner Bare) e some one = record {
  candidate = c;
  ends = k;
  inner = inner;
  says = nodes_of-rows_of d (Grown c k inner Bare);
  are =
      ap (λ l. record {
        depth = d;
        candidate = c;
        ballots = k + through inner;
        skip = length (rows_of (d + 1) inner) + 1;
      } ∷ l) (append-nil (rows_of (d + 1) inner));
}

pub one_node :
    (n d : ℕ) (rows : List PlanRow) (e : PlanRow) → AreRows n d rows → 1 ≤ length rows
    → (get_or rows 0 e).skip ≡ length rows → IsOne d rows
one_node n d rows e are some one =
    let f = nodes_of rows in
    subst (IsOne d) (sym are.preorder)
    (one_forest d f e (omega (arith, ap length are.preorder))
    (subst (λ (l : List PlanRow). (get_or l 0 e).skip ≡ length l) are.preorder one))

-- the rows below it
pub below_node : (n d : ℕ) (rows : List PlanRow) → AreRows n d rows → IsOne d rows → AreRows n (d + 1) (drop 1 rows)
below_node n d rows are one =
    let whole : IsGrown n are.low d (Grown one.candidate one.ends one.inner Bare) =
    subst (IsGrown n are.low d) one.says are.grown in
    let few : through (Grown one.candidate one.ends one.inner Bare) ≤ 999999999 =
    subst (λ (g : Forest). through g ≤ 999999999) one.says are.few in
    subst (λ (l : List PlanRow). AreRows n (d + 1) (drop 1 l)) (sym one.are)
    (rows_of_forest n (d + 1) 0 one.inner whole.4 (omega arith))

closed_of :
    (d c k : ℕ) (inner : Forest) (rows : List PlanRow) (f : Stem) (old now : List Stem) (at : ℕ) → 1 ≤ d
    → nodes_of rows ≡ Grown c k inner Bare → drop 1 rows ≡ rows_of (d + 1) inner → at ≡ length old
    → HasAdded (d + 1) (drop 1 rows)
    (old ++ record { depth = d; candidate = c; ballots = k + through inner; skip = 1; tail = [] } ∷ [])
    now → HasAdded d rows old (set now at (closed_stem (get_or now at f) (length now - at)))
closed_of d c k inner rows f old now at pos says rest place below =
    let first : Stem = record { depth = d; candidate = c; ballots = k + through inner; skip = 1; tail = [] } in
    let added = below.added in
    let is : now ≡ old ++ first ∷ added = below.is ∙ append_assoc old (first ∷ []) added in
    let here : get_or now at f ≡ first = ap (λ l. get_or l at f) is ∙ get_or_at old first added f at (sym place) in
    let skip : length now - at ≡ length added + 1 = omega (arith, ap length is, length-append old (first ∷ added)) in
    let closed = closed_stem first (length added + 1) in
    let inner_is : nodes_of (drop 1 rows) ≡ inner = ap nodes_of rest ∙ nodes_of-rows_of (d + 1) inner in
    record {
      added = closed ∷ added;
      is =
          ap (λ x. set now at (closed_stem x (length now - at))) here
          ∙ (ap (λ q. set now at (closed_stem first q)) skip
          ∙ (ap (λ l. set l at closed) is ∙ set_at old first added closed at (sym place)));
      stand =
          λ n low all.
          let whole : IsGrown n low d (Grown c k inner Bare) = subst (IsGrown n low d) says all in
          let lower : StandFor n (d + 1) added (ballots_of inner) =
          subst (λ (g : Forest). StandFor n (d + 1) added (ballots_of g)) inner_is
          (below.stand n 0 (subst (IsGrown n 0 (d + 1)) (sym inner_is) whole.4)) in
          let node = stand-node n d c k added (ballots_of inner) pos whole.2 (omega (arith, whole.0)) whole.1 lower in
          let counted : StandFor n d (closed ∷ added) (map (λ r. c ∷ r) (replicate k [] ++ ballots_of inner)) =
          subst (λ q. StandFor n d (record
          { depth = d; candidate = c; ballots = k + q; skip = length added + 1; tail = [] }
          ∷ added) (map (λ r. c ∷ r) (replicate k [] ++ ballots_of inner)))
          (length-ballots_of inner) node in
          subst (StandFor n d (closed ∷ added))
          (sym (ap ballots_of says ∙ append-nil (map (λ r. c ∷ r) (replicate k [] ++ ballots_of inner))))
          counted;
    }

-- A node with those below it.
pub closed_node :
    (n d : ℕ) (rows : List PlanRow) (e : PlanRow) (f : Stem) → AreRows 250 d rows → 1 ≤ d → 1 ≤ length rows
    → (get_or rows 0 e).skip ≡ length rows → (old now : List Stem) (at : ℕ) → at ≡ length old
    → HasAdded (d + 1) (drop 1 rows) (old ++ stem_of_row d (get_or rows 0 e) [] ∷ []) now
    → HasAdded d rows old (set now at (closed_stem (get_or now at f) (length now - at)))
closed_node n d rows e f are pos some one old now at place below =
    let o = one_node 250 d rows e are some one in
    let first : PlanRow =
    record {
      depth = d;
      candidate = o.candidate;
      ballots = o.ends + through o.inner;
      skip = length (rows_of (d + 1) o.inner) + 1;
    } in
    let head : get_or rows 0 e ≡ first = ap (λ (l : List PlanRow). get_or l 0 e) o.are in
    closed_of d o.candidate o.ends o.inner rows f old now at pos o.says (ap (drop 1) o.are) place
    (subst (λ (r : PlanRow). HasAdded (d + 1) (drop 1 rows) (old ++ stem_of_row d r [] ∷ []) now) head below)
