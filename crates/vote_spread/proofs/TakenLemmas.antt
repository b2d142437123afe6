-- The next siblings of one candidate, taken out of parts.
use Rattle.std.proofs.Common.{◌≡◌, ℕ, ◌+◌, ◌-◌, ◌*◌, ◌≤◌, ◌==◌, if◌then◌else◌, Bool, true, false, List, []}
use Rattle.std.proofs.Common.{◌∷◌, length, map, take, drop, sum_by, ◌≢◌, ⊎_elim, arith, ap, sym, subst, ◌∙◌}
use Rattle.std.specs.List.{All, flat_map}
use Rattle.std.proofs.lemmas.Bool.Decides.{eqb_tells}
use Rattle.std.proofs.lemmas.List.{append-nil, length-append, length-drop, length-take-le, get_or-take}
use Rattle.std.proofs.lemmas.List.Elements.{All-nil, All-cons, All-head, All-tail, All-append}
use Rattle.std.proofs.lemmas.List.Sums.{sum_by-append, sum_by-cons}
use Rattle.std.proofs.Math.Nat.{add-mul}
use Rattle.std.proofs.lemmas.Nat.{mul-le}
use Rattle.frozen_plan.specs.declared.plan_row.PlanRow.{PlanRow}
use Rattle.frozen_plan.specs.Forest.{ballots_of, nodes_of}
use Rattle.vote_spread.specs.Packed.{AreRows}
use Rattle.vote_spread.specs.Merged.{behind, front, part_ballots, AreParts, IsAlone}
use Rattle.vote_spread.proofs.RowLemmas.{parted_rows}
use Rattle.vote_spread.proofs.PartLemmas.{All-one, counted_by, part-append, part-cons}

pub record IsTaken (n d c : ℕ) (rows : List PlanRow) (nodes : List (List PlanRow)) (rest : List PlanRow) : Type 0 where
  pub nodes_are : All (AreRows n d) nodes
  pub alone : All (IsAlone c) nodes
  pub rest_are : AreRows n d rest
  pub both :
      (f : List ℕ → ℕ)
      → sum_by f (ballots_of (nodes_of rows))
      ≡ sum_by f (part_ballots nodes) + sum_by f (ballots_of (nodes_of rest))
  pub shorter : sum_by (λ (r : List PlanRow). length r) nodes + length rest ≡ length rows

nothing_taken : (n d c : ℕ) (rows : List PlanRow) → AreRows n d rows → IsTaken n d c rows [] rows
nothing_taken n d c rows are = record {
  nodes_are = All-nil (AreRows n d);
  alone = All-nil (IsAlone c);
  rest_are = are;
  both = λ f. omega arith;
  shorter = omega arith;
}

one_taken :
    (n d c : ℕ) (row : PlanRow) (rows : List PlanRow) → row.candidate ≡ c → AreRows n d (row ∷ rows)
    → IsTaken n d c (row ∷ rows) (take row.skip (row ∷ rows) ∷ []) (drop row.skip (row ∷ rows))
one_taken n d c row rows same are =
    let all = row ∷ rows in
    let node = take row.skip all in
    let rest = drop row.skip all in
    let p = parted_rows n d all row are (omega arith) in
    record {
      nodes_are = All-one (AreRows n d) node p.node;
      alone =
          All-one (IsAlone c) node (record {
            some = p.first;
            whole = p.one;
            candidate =
                λ e. ap (λ (r : PlanRow). r.candidate)
                (get_or-take row.skip all 0 e (omega (arith, p.some))) ∙ same;
          });
      rest_are = p.behind;
      both =
          λ f. ap (sum_by f) p.ballots
          ∙ (sum_by-append f (ballots_of (nodes_of node)) (ballots_of (nodes_of rest))
          ∙ ap (λ (l : List (List ℕ)). sum_by f l + sum_by f (ballots_of (nodes_of rest)))
          (sym (append-nil (ballots_of (nodes_of node)))));
      shorter =
          omega (
            arith,
            p.inside,
            sum_by-cons (λ (r : List PlanRow). length r) node [],
            length-take-le row.skip all p.inside,
            length-drop row.skip all,
          );
    }

pub taken : (n d c : ℕ) (rows : List PlanRow) → AreRows n d rows → IsTaken n d c rows (front c rows) (behind c rows)
taken n d c [] are = nothing_taken n d c [] are
taken n d c (row ∷ rows) are =
    let P : Bool → Type 0 =
    λ b. IsTaken n d c (row ∷ rows) (if b then take row.skip (row ∷ rows) ∷ [] else [])
    (if b then drop row.skip (row ∷ rows) else row ∷ rows) in
    ⊎_elim
    (λ (same : ((row.candidate == c) ≡ true) × (row.candidate ≡ c)).
    subst P (sym same.0) (one_taken n d c row rows same.1 are))
    (λ (other : ((row.candidate == c) ≡ false) × (row.candidate ≢ c)).
    subst P (sym other.0) (nothing_taken n d c (row ∷ rows) are))
    (eqb_tells row.candidate c)

pub record AreTaken (n d c : ℕ) (parts nodes rest : List (List PlanRow)) : Type 0 where
  pub nodes_are : All (AreRows n d) nodes
  pub alone : All (IsAlone c) nodes
  pub rest_are : All (AreRows n d) rest
  pub both : (f : List ℕ → ℕ) → sum_by f (part_ballots parts) ≡ sum_by f (part_ballots nodes) + sum_by f (part_ballots rest)
  pub shorter :
      sum_by (λ (r : List PlanRow). length r) nodes + sum_by (λ (r : List PlanRow). length r) rest
      ≡ sum_by (λ (r : List PlanRow). length r) parts

pub all_taken :
    (n d c : ℕ) (parts : List (List PlanRow)) → All (AreRows n d) parts
    → AreTaken n d c parts (flat_map (front c) parts) (map (behind c) parts)
all_taken n d c [] are = record {
  nodes_are = All-nil (AreRows n d);
  alone = All-nil (IsAlone c);
  rest_are = All-nil (AreRows n d);
  both = λ f. omega arith;
  shorter = omega arith;
}
all_taken n d c (rows ∷ parts) are =
    let long : List PlanRow → ℕ = λ r. length r in
    let one = taken n d c rows (All-head (AreRows n d) rows parts are) in
    let more = all_taken n d c parts (All-tail (AreRows n d) rows parts are) in
    let nodes = flat_map (front c) parts in
    let rest = map (behind c) parts in
    record {
      nodes_are = All-append (AreRows n d) (front c rows) nodes one.nodes_are more.nodes_are;
      alone = All-append (IsAlone c) (front c rows) nodes one.alone more.alone;
      rest_are = All-cons (AreRows n d) (behind c rows) rest one.rest_are more.rest_are;
      both =
          λ f. omega (
            arith,
            one.both f,
            more.both f,
            part-cons f rows parts,
            part-append f (front c rows) nodes,
            part-cons f (behind c rows) rest,
          );
      shorter =
          omega (
            arith,
            one.shorter,
            more.shorter,
            sum_by-cons long rows parts,
            sum_by-append long (front c rows) nodes,
            sum_by-cons long (behind c rows) rest,
          );
    }

-- the nodes that are taken out of parts are parts
pub nodes_are_parts : (d c : ℕ) (parts : List (List PlanRow)) → AreParts d parts → AreParts d (flat_map (front c) parts)
nodes_are_parts d c parts are =
    let t = all_taken 250 d c parts are.each in
    record {
      each = t.nodes_are;
      few =
          omega (
            arith,
            are.few,
            t.both (λ (x : List ℕ). 1),
            counted_by (part_ballots parts),
            counted_by (part_ballots (flat_map (front c) parts)),
          );
    }

few_if : (b : Bool) (node : List PlanRow) → length (if b then node ∷ [] else []) ≤ 1
few_if true node = omega arith
few_if false node = omega arith

front_few : (c : ℕ) (rows : List PlanRow) → length (front c rows) ≤ 1
front_few c [] = omega arith
front_few c (row ∷ rows) = few_if (row.candidate == c) (take row.skip (row ∷ rows))

-- no more nodes are taken out than there are parts
pub taken_few : (c : ℕ) (parts : List (List PlanRow)) → length (flat_map (front c) parts) ≤ length parts
taken_few c [] = omega arith
taken_few c (rows ∷ parts) =
    omega
    (arith, front_few c rows, taken_few c parts, length-append (front c rows) (flat_map (front c) parts))

-- room that is enough for all parts at m + 1 depths is enough for their nodes at one, and after these at m
pub room_below :
    (m parts nodes room : ℕ) → nodes ≤ parts → (m + 1) * parts ≤ room
    → (nodes ≤ room) × (m * nodes ≤ room - nodes)
room_below m parts nodes room few enough =
    let most = mul-le (m + 1) nodes (m + 1) parts (omega arith) few in
    let split = add-mul m 1 nodes in (
      omega (arith, most, split, enough),
      omega (arith, most, split, enough),
    )

-- where a node is taken out, rows are
pub fewer_rows :
    (c : ℕ) (nodes : List (List PlanRow)) → 1 ≤ length nodes → All (IsAlone c) nodes
    → 1 ≤ sum_by (λ (r : List PlanRow). length r) nodes
fewer_rows c [] some alone = absurd (omega (arith, some))
fewer_rows c (rows ∷ nodes) some alone =
    omega (arith, (All-head (IsAlone c) rows nodes alone).some, sum_by-cons (λ (r : List PlanRow). length r) rows nodes)
