-- The steps of merging.
use Rattle.std.proofs.Common.{◌≡◌, ℕ, ◌+◌, ◌-◌, ◌≤◌, List, [], ◌∷◌, ◌++◌, length, map, drop, get_or, set}
use Rattle.std.proofs.Common.{sum_by, replicate, arith, refl, ap, sym, subst, ◌∙◌, append_assoc}
use Rattle.std.specs.List.{All, flat_map}
use Rattle.std.proofs.lemmas.List.{append-nil, length-append, get_or_at, set_at}
use Rattle.std.proofs.lemmas.List.Elements.{All-head, All-tail}
use Rattle.std.proofs.lemmas.List.Sums.{sum_by-append}
use Rattle.frozen_plan.specs.declared.plan_row.PlanRow.{PlanRow}
use Rattle.frozen_plan.specs.Forest.{ballots_of, nodes_of}
use Rattle.vote_spread.specs.Stem.{Stem, closed_stem}
use Rattle.vote_spread.specs.Packed.{StandFor, AreRows, HasAdded}
use Rattle.vote_spread.specs.Merged.{behind, front, first_ballots, part_ballots, AreParts, IsAlone, AreOfAll, HasMerged}
use Rattle.vote_spread.proofs.StandLemmas.{stand-nothing, stand-append, stand-node}
use Rattle.vote_spread.proofs.PartLemmas.{counted_by, of_all_rows, rows_of_all, stand_same}
use Rattle.vote_spread.proofs.OpenedLemmas.{opened}
use Rattle.vote_spread.proofs.TakenLemmas.{all_taken}

-- one part alone
pub merged_one :
    (d : ℕ) (rows : List PlanRow) (old new : List Stem) → HasAdded d rows old new
    → HasMerged d (rows ∷ []) old new
merged_one d rows old new has = record {
  added = has.added;
  is = has.is;
  stand =
      λ n all. subst (StandFor n d has.added) (sym (append-nil (ballots_of (nodes_of rows))))
      (has.stand n (all 0 rows (omega arith)).low (all 0 rows (omega arith)).grown);
}

-- nodes of one candidate as one branch
pub merged_many :
    (d c ballots : ℕ) (nodes : List (List PlanRow)) (e : PlanRow) (f : Stem) (old now : List Stem) (at : ℕ)
    → 1 ≤ d → 1 ≤ length nodes → All (AreRows 250 d) nodes → All (IsAlone c) nodes
    → ballots ≡ sum_by first_ballots nodes → at ≡ length old
    → HasMerged (d + 1) (map (λ rows. drop 1 rows) nodes)
    (old ++ record { depth = d; candidate = c; ballots = ballots; skip = 1; tail = [] } ∷ []) now
    → HasMerged d nodes old (set now at (closed_stem (get_or now at f) (length now - at)))
merged_many d c ballots nodes e f old now at pos some are alone total place below =
    let first : Stem = record { depth = d; candidate = c; ballots = ballots; skip = 1; tail = [] } in
    let low = map (λ (rows : List PlanRow). drop 1 rows) nodes in
    let added = below.added in
    let is : now ≡ old ++ first ∷ added = below.is ∙ append_assoc old (first ∷ []) added in
    let here : get_or now at f ≡ first = ap (λ l. get_or l at f) is ∙ get_or_at old first added f at (sym place) in
    let skip : length now - at ≡ length added + 1 = omega (arith, ap length is, length-append old (first ∷ added), place) in
    let closed = closed_stem first (length added + 1) in
    record {
      added = closed ∷ added;
      is =
          ap (λ x. set now at (closed_stem x (length now - at))) here
          ∙ (ap (λ q. set now at (closed_stem first q)) skip
          ∙ (ap (λ l. set l at closed) is ∙ set_at old first added closed at (sym place)));
      stand =
          λ n all.
          let o = opened n d c nodes e (rows_of_all n d nodes are all) alone in
          let k = o.known some in
          let node =
          stand-node n d c o.ends added (part_ballots low) pos k.1.1 k.0 k.1.0
          (below.stand n (of_all_rows n (d + 1) low o.below)) in
          let counted : StandFor n d (closed ∷ added) (map (λ r. c ∷ r) (replicate o.ends [] ++ part_ballots low)) =
          subst (λ q. StandFor n d
          (record { depth = d; candidate = c; ballots = q; skip = length added + 1; tail = [] } ∷ added)
          (map (λ r. c ∷ r) (replicate o.ends [] ++ part_ballots low))) (sym (total ∙ o.counted)) node
          in
          stand_same n d (closed ∷ added) (map (λ r. c ∷ r) (replicate o.ends [] ++ part_ballots low))
          (part_ballots nodes) (λ g. sym (o.both g)) counted;
    }

-- Of parts those before `rest` are packed.
pub record IsMerged (n d : ℕ) (parts rest : List (List PlanRow)) (added : List Stem) : Type 0 where
  pub done : List (List ℕ)
  pub stand : StandFor n d added done
  pub both : (f : List ℕ → ℕ) → sum_by f done + sum_by f (part_ballots rest) ≡ sum_by f (part_ballots parts)
  pub of_all : All (AreOfAll n d) rest

pub record IsMerging (d : ℕ) (parts rest : List (List PlanRow)) (old now : List Stem) : Type 0 where
  pub are : AreParts d rest
  pub added : List Stem
  pub is : now ≡ old ++ added
  pub packed : (n : ℕ) → All (AreOfAll n d) parts → IsMerged n d parts rest added

pub merging-begin :
    (d : ℕ) (parts : List (List PlanRow)) (old : List Stem) → AreParts d parts
    → IsMerging d parts parts old old
merging-begin d parts old are = record {
  are = are;
  added = [];
  is = sym (append-nil old);
  packed = λ n all. record { done = []; stand = stand-nothing n d; both = λ f. omega arith; of_all = all };
}

pub merging-next :
    (d c : ℕ) (parts rest : List (List PlanRow)) (old now next : List Stem) → IsMerging d parts rest old now
    → HasMerged d (flat_map (front c) rest) now next
    → IsMerging d parts (map (behind c) rest) old next
merging-next d c parts rest old now next so_far has =
    let nodes = flat_map (front c) rest in
    let left = map (behind c) rest in
    let t = all_taken 250 d c rest so_far.are.each in
    record {
      are =
          record {
            each = t.rest_are;
            few =
                omega (
                  arith,
                  so_far.are.few,
                  t.both (λ (x : List ℕ). 1),
                  counted_by (part_ballots rest),
                  counted_by (part_ballots left),
                );
          };
      added = so_far.added ++ has.added;
      is = has.is ∙ (ap (λ l. l ++ has.added) so_far.is ∙ append_assoc old so_far.added has.added);
      packed =
          λ n all.
          let p = so_far.packed n all in
          let u = all_taken n d c rest (rows_of_all n d rest so_far.are.each p.of_all) in
          record {
            done = p.done ++ part_ballots nodes;
            stand =
                stand-append n d so_far.added has.added p.done (part_ballots nodes) p.stand
                (has.stand n (of_all_rows n d nodes u.nodes_are));
            both = λ f. omega (arith, p.both f, u.both f, sum_by-append f p.done (part_ballots nodes));
            of_all = of_all_rows n d left u.rest_are;
          };
    }

nothing_left : (rest : List (List PlanRow)) → All (λ rows. rows ≡ []) rest → part_ballots rest ≡ []
nothing_left [] none = refl
nothing_left (rows ∷ rest) none =
    ap (λ (l : List PlanRow). ballots_of (nodes_of l) ++ part_ballots rest)
    (All-head (λ (r : List PlanRow). r ≡ []) rows rest none)
    ∙ nothing_left rest (All-tail (λ (r : List PlanRow). r ≡ []) rows rest none)

pub merging-end :
    (d : ℕ) (parts rest : List (List PlanRow)) (old now : List Stem) → IsMerging d parts rest old now
    → All (λ rows. rows ≡ []) rest → HasMerged d parts old now
merging-end d parts rest old now so_far none = record {
  added = so_far.added;
  is = so_far.is;
  stand =
      λ n all.
      let p = so_far.packed n all in
      stand_same n d so_far.added p.done (part_ballots parts)
      (λ f. omega (arith, p.both f, ap (sum_by f) (nothing_left rest none))) p.stand;
}
