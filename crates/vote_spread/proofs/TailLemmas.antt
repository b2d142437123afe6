-- Nodes whose ballots all go on with the same candidates.
use Rattle.std.proofs.Common.{◌≡◌, ℕ, ◌+◌, ◌-◌, ◌*◌, ◌≤◌, ◌<◌, List, [], ◌∷◌, ◌++◌, length, get_or, drop, map}
use Rattle.std.proofs.Common.{replicate, sum_by, arith, refl, ap, sym, subst, ◌∙◌, zero, suc}
use Rattle.std.specs.List.{All}
use Rattle.std.proofs.lemmas.List.{append-nil, drop-map, length-map, get_or-map}
use Rattle.std.proofs.lemmas.List.Elements.{All-head, All-tail}
use Rattle.std.proofs.lemmas.List.Folds.{sum_by-replicate}
use Rattle.std.proofs.lemmas.List.Sums.{sum_by-cons}
use Rattle.std.proofs.Math.Nat.{add-mul}
use Rattle.frozen_plan.specs.declared.plan_row.PlanRow.{PlanRow}
use Rattle.frozen_plan.specs.Forest.{Forest, Bare, Grown, ballots_of, through, rows_of, IsGrown, nodes_of}
use Rattle.vote_spread.specs.Stem.{Stem, stem_of_row}
use Rattle.vote_spread.specs.Packed.{StandFor, AreRows, HasAdded}
use Rattle.vote_spread.specs.Merged.{first_ballots, part_ballots, AreAlike, GoesOnLike, HasMerged, IsAlone}
use Rattle.vote_spread.proofs.StandLemmas.{stand-tail}
use Rattle.vote_spread.proofs.RowLemmas.{candidates, last_ballots, map-same, run}
use Rattle.vote_spread.proofs.PackLemmas.{one_node}
use Rattle.vote_spread.proofs.PartLemmas.{part-cons, rows_of_all, stand_same}

-- The rows of a node at depth d whose ballots all go on to the last row.
pub record IsStraight (n d : ℕ) (rows : List PlanRow) (first : PlanRow) : Type 0 where
  pub short : d + length (drop 1 rows) ≤ 250
  pub number : 1 ≤ first.candidate
  pub known : first.candidate ≤ n
  pub among : All (λ r. (1 ≤ r) × (r ≤ n)) (candidates (drop 1 rows))
  pub ballots : ballots_of (nodes_of rows) ≡ replicate first.ballots (first.candidate ∷ candidates (drop 1 rows))

last_at :
    (x : PlanRow) (xs : List PlanRow) (e : PlanRow) (i : ℕ) → i ≡ length xs
    → (get_or (x ∷ xs) i e).ballots ≡ last_ballots x.ballots xs
last_at x [] e i at = ap (λ n. (get_or (x ∷ []) n e).ballots) at
last_at x (y ∷ ys) e zero at = absurd (omega arith)
last_at x (y ∷ ys) e (suc i) at = last_at y ys e i (omega arith)

straight_of :
    (n d c k : ℕ) (inner : Forest) (rows : List PlanRow) (low : ℕ) → IsGrown n low d (Grown c k inner Bare)
    → last_ballots (k + through inner) (rows_of (d + 1) inner) ≡ k + through inner
    → nodes_of rows ≡ Grown c k inner Bare → drop 1 rows ≡ rows_of (d + 1) inner
    → IsStraight n d rows (record {
      depth = d;
      candidate = c;
      ballots = k + through inner;
      skip = length (rows_of (d + 1) inner) + 1;
    })
straight_of n d c k inner rows low grown last says rest =
    let below = rows_of (d + 1) inner in
    let m = k + through inner in
    let alike = run n 0 (d + 1) k m inner (omega (arith, grown.2)) grown.4 refl last in
    let ranks : candidates (drop 1 rows) ≡ candidates below = ap candidates rest in
    record {
      short = omega (arith, alike.short, ap length rest);
      number = omega (arith, grown.0);
      known = grown.1;
      among = subst (All (λ r. (1 ≤ r) × (r ≤ n))) (sym ranks) alike.known;
      ballots =
          ap ballots_of says
          ∙ (append-nil (map (λ r. c ∷ r) (replicate k [] ++ ballots_of inner))
          ∙ (ap (map (λ r. c ∷ r)) alike.alike
          ∙ (map-same m (λ r. c ∷ r) (candidates below)
          ∙ ap (λ (l : List ℕ). replicate m (c ∷ l)) (sym ranks))));
    }

-- A node whose last row has as many ballots as the first goes straight on.
pub straight_node :
    (n d : ℕ) (rows : List PlanRow) (e : PlanRow) → AreRows n d rows → 1 ≤ length rows
    → (get_or rows 0 e).skip ≡ length rows
    → (get_or rows (length rows - 1) e).ballots ≡ (get_or rows 0 e).ballots
    → IsStraight n d rows (get_or rows 0 e)
straight_node n d rows e are some one last =
    let o = one_node n d rows e are some one in
    let below = rows_of (d + 1) o.inner in
    let m = o.ends + through o.inner in
    let first : PlanRow = record { depth = d; candidate = o.candidate; ballots = m; skip = length below + 1 } in
    let head : get_or rows 0 e ≡ first = ap (λ (l : List PlanRow). get_or l 0 e) o.are in
    let size : length rows - 1 ≡ length below = omega (arith, ap length o.are) in
    let ends : last_ballots m below ≡ m =
    sym (last_at first below e (length rows - 1) size)
    ∙ (sym (ap (λ (l : List PlanRow). (get_or l (length rows - 1) e).ballots) o.are)
    ∙ (last ∙ ap (λ (r : PlanRow). r.ballots) head)) in
    subst (IsStraight n d rows) (sym head)
    (straight_of n d o.candidate o.ends o.inner rows are.low (subst (IsGrown n are.low d) o.says are.grown)
    ends o.says (ap (drop 1) o.are))

-- It is a stem with a tail.
pub record IsTailed (d : ℕ) (rows : List PlanRow) (first : PlanRow) : Type 0 where
  pub short : length (drop 1 rows) ≤ 250
  pub known : All (λ r. r.candidate ≤ 250) (drop 1 rows)
  pub added : (old : List Stem) → HasAdded d rows old (old ++ stem_of_row d first (drop 1 rows) ∷ [])

known_rows : (rows : List PlanRow) → All (λ r. (1 ≤ r) × (r ≤ 250)) (candidates rows) → All (λ r. r.candidate ≤ 250) rows
known_rows rows among i e lt =
    let at : get_or (candidates rows) i 0 ≡ (get_or rows i e).candidate =
    get_or-map (λ (r : PlanRow). r.candidate) rows i e 0 lt in
    omega (arith, among i 0 (omega (arith, length-map rows (λ (r : PlanRow). r.candidate))))

stand_straight :
    (n d : ℕ) (rows : List PlanRow) (first : PlanRow) → 1 ≤ d → IsStraight n d rows first
    → StandFor n d (stem_of_row d first (drop 1 rows) ∷ []) (ballots_of (nodes_of rows))
stand_straight n d rows first pos is =
    let ranks = candidates (drop 1 rows) in
    subst (StandFor n d (stem_of_row d first (drop 1 rows) ∷ [])) (sym is.ballots)
    (stand-tail n d first.candidate first.ballots ranks pos
    (omega (arith, is.short, length-map (drop 1 rows) (λ (r : PlanRow). r.candidate))) is.number is.known
    is.among)

pub tail_node :
    (n d : ℕ) (rows : List PlanRow) (e : PlanRow) → AreRows 250 d rows → 1 ≤ d → 1 ≤ length rows
    → (get_or rows 0 e).skip ≡ length rows
    → (get_or rows (length rows - 1) e).ballots ≡ (get_or rows 0 e).ballots
    → IsTailed d rows (get_or rows 0 e)
tail_node n d rows e are pos some one last =
    let is = straight_node 250 d rows e are some one last in
    record {
      short = omega (arith, is.short);
      known = known_rows (drop 1 rows) is.among;
      added =
          λ old. record {
            added = stem_of_row d (get_or rows 0 e) (drop 1 rows) ∷ [];
            is = refl;
            stand =
                λ m low grown.
                let own : AreRows m d rows = record { preorder = are.preorder; low = low; grown = grown; few = are.few } in
                stand_straight m d rows (get_or rows 0 e) pos (straight_node m d rows e own some one last);
          };
    }

-- ---- several nodes that go on alike

pub same_candidates :
    (xs ys : List PlanRow) (e : PlanRow) → length xs ≡ length ys
    → ((k : ℕ) → k < length xs → (get_or xs k e).candidate ≡ (get_or ys k e).candidate)
    → candidates xs ≡ candidates ys
same_candidates [] [] e long same = refl
same_candidates [] (y ∷ ys) e long same = absurd (omega (arith, long))
same_candidates (x ∷ xs) [] e long same = absurd (omega (arith, long))
same_candidates (x ∷ xs) (y ∷ ys) e long same =
    let first : x.candidate ≡ y.candidate = same 0 (omega arith) in
    ap (λ (c : ℕ). c ∷ candidates xs) first
    ∙ ap (λ (l : List ℕ). y.candidate ∷ l)
    (same_candidates xs ys e (omega (arith, long)) (λ k lt. same (suc k) (omega arith)))

-- a node of candidate c whose ballots all go on with these ranks
record GoesOn (n d c : ℕ) (ranks : List ℕ) (rows : List PlanRow) : Type 0 where
  pub short : d + length ranks ≤ 250
  pub number : 1 ≤ c
  pub known : c ≤ n
  pub among : All (λ r. (1 ≤ r) × (r ≤ n)) ranks
  pub ballots : ballots_of (nodes_of rows) ≡ replicate (first_ballots rows) (c ∷ ranks)

goes_on :
    (n d c : ℕ) (other rows : List PlanRow) (e : PlanRow) → AreRows n d rows → IsAlone c rows
    → GoesOnLike other rows → GoesOn n d c (candidates (drop 1 other)) rows
goes_on n d c other [] e are alone like = absurd (omega (arith, alone.some))
goes_on n d c other (row ∷ rows) e are alone like =
    let is = straight_node n d (row ∷ rows) e are alone.some (alone.whole e) (like.to_the_end e) in
    let named : row.candidate ≡ c = alone.candidate e in
    let ranks : candidates rows ≡ candidates (drop 1 other) =
    ap (drop 1) like.same ∙ drop-map (λ (r : PlanRow). r.candidate) 1 other in
    record {
      short = omega (arith, is.short, ap length ranks, length-map rows (λ (r : PlanRow). r.candidate));
      number = omega (arith, is.number, named);
      known = omega (arith, is.known, named);
      among = subst (All (λ r. (1 ≤ r) × (r ≤ n))) ranks is.among;
      ballots =
          is.ballots
          ∙ (ap (λ (k : ℕ). replicate row.ballots (k ∷ candidates rows)) named
          ∙ ap (λ (l : List ℕ). replicate row.ballots (c ∷ l)) ranks);
    }

-- what they give together
alike_give :
    (n d c : ℕ) (other : List PlanRow) (nodes : List (List PlanRow)) (e : PlanRow) → All (AreRows n d) nodes
    → All (IsAlone c) nodes → All (GoesOnLike other) nodes
    → (f : List ℕ → ℕ) → sum_by f (part_ballots nodes) ≡ sum_by first_ballots nodes * f (c ∷ candidates (drop 1 other))
alike_give n d c other [] e are alone like f = omega arith
alike_give n d c other (rows ∷ nodes) e are alone like f =
    let ranks = candidates (drop 1 other) in
    let one =
    goes_on n d c other rows e (All-head (AreRows n d) rows nodes are)
    (All-head (IsAlone c) rows nodes alone) (All-head (GoesOnLike other) rows nodes like) in
    let more =
    alike_give n d c other nodes e (All-tail (AreRows n d) rows nodes are)
    (All-tail (IsAlone c) rows nodes alone) (All-tail (GoesOnLike other) rows nodes like) f in
    let here : sum_by f (ballots_of (nodes_of rows)) ≡ first_ballots rows * f (c ∷ ranks) =
    ap (sum_by f) one.ballots ∙ sum_by-replicate f (first_ballots rows) (c ∷ ranks) in
    let total :
    sum_by first_ballots (rows ∷ nodes) * f (c ∷ ranks)
    ≡ first_ballots rows * f (c ∷ ranks) + sum_by first_ballots nodes * f (c ∷ ranks) =
    ap (λ (m : ℕ). m * f (c ∷ ranks)) (sum_by-cons first_ballots rows nodes)
    ∙ add-mul (first_ballots rows) (sum_by first_ballots nodes) (f (c ∷ ranks)) in
    omega (arith, here, more, part-cons f rows nodes, total)

-- they are one stem
pub record AreTailed (d c ballots : ℕ) (other : List PlanRow) (nodes : List (List PlanRow)) : Type 0 where
  pub short : length (drop 1 other) ≤ 250
  pub known : All (λ r. r.candidate ≤ 250) (drop 1 other)
  pub merged :
      (old : List Stem)
      → HasMerged d nodes old (old
      ++ record
      { depth = d; candidate = c; ballots = ballots; skip = 1; tail = candidates (drop 1 other) }
      ∷ [])

alike_first :
    (n d c : ℕ) (other : List PlanRow) (nodes : List (List PlanRow)) (e : PlanRow) → 1 ≤ length nodes
    → All (AreRows n d) nodes → All (IsAlone c) nodes → All (GoesOnLike other) nodes
    → GoesOn n d c (candidates (drop 1 other)) (get_or nodes 0 [])
alike_first n d c other nodes e some are alone like =
    goes_on n d c other (get_or nodes 0 []) e (are 0 [] some) (alone 0 [] some) (like 0 [] some)

pub alike_nodes :
    (d c ballots : ℕ) (nodes : List (List PlanRow)) (e : PlanRow) (x : List PlanRow) → 1 ≤ d
    → 1 ≤ length nodes → All (AreRows 250 d) nodes → All (IsAlone c) nodes → AreAlike nodes
    → ballots ≡ sum_by first_ballots nodes
    → AreTailed d c ballots (get_or nodes 0 x) nodes
alike_nodes d c ballots nodes e x pos some are alone alike total =
    let other = get_or nodes 0 x in
    let ranks = candidates (drop 1 other) in
    let like = alike x in
    let is = alike_first 250 d c other nodes e some are alone like in
    let long = length-map (drop 1 other) (λ (r : PlanRow). r.candidate) in
    let stem : Stem = record { depth = d; candidate = c; ballots = ballots; skip = 1; tail = ranks } in
    record {
      short = omega (arith, is.short, long);
      known = known_rows (drop 1 other) is.among;
      merged =
          λ old. record {
            added = stem ∷ [];
            is = refl;
            stand =
                λ n all.
                let own = rows_of_all n d nodes are all in
                let first = alike_first n d c other nodes e some own alone like in
                let gives : (f : List ℕ → ℕ) → sum_by f (replicate ballots (c ∷ ranks)) ≡ sum_by f (part_ballots nodes) =
                λ f. sum_by-replicate f ballots (c ∷ ranks)
                ∙ (ap (λ (m : ℕ). m * f (c ∷ ranks)) total
                ∙ sym (alike_give n d c other nodes e own alone like f)) in
                stand_same n d (stem ∷ []) (replicate ballots (c ∷ ranks)) (part_ballots nodes) gives
                (stand-tail n d c ballots ranks pos first.short first.number first.known first.among);
          };
    }
