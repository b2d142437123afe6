-- The rows of a plan, node by node.
use Rattle.std.proofs.Common.{◌≡◌, ℕ, ◌+◌, ◌≤◌, List, [], ◌∷◌, ◌++◌, length, get_or, drop, take, map}
use Rattle.std.proofs.Common.{replicate, arith, refl, ap, sym, subst, ◌∙◌, zero, suc}
use Rattle.std.specs.List.{All}
use Rattle.std.proofs.lemmas.List.{append-nil, length-append, take_at, drop_at}
use Rattle.std.proofs.lemmas.List.Elements.{All-cons}
use Rattle.frozen_plan.specs.declared.plan_row.PlanRow.{PlanRow}
use Rattle.frozen_plan.specs.Forest.{Forest, Bare, Grown, ballots_of, through, rows_of, IsGrown, nodes_of}
use Rattle.frozen_plan.proofs.ReadLemmas.{read-rows_of}
use Rattle.vote_spread.specs.Packed.{AreRows}

-- the nodes that the rows of a forest say
pub nodes_of-rows_of : (d : ℕ) (f : Forest) → nodes_of (rows_of d f) ≡ f
nodes_of-rows_of d f = read-rows_of (length (rows_of d f)) d f (omega arith)

pub rows_of_forest : (n d low : ℕ) (f : Forest) → IsGrown n low d f → through f ≤ 999999999 → AreRows n d (rows_of d f)
rows_of_forest n d low f grown few =
    let same = nodes_of-rows_of d f in
    record {
      preorder = sym (ap (rows_of d) same);
      low = low;
      grown = subst (IsGrown n low d) (sym same) grown;
      few = subst (λ (g : Forest). through g ≤ 999999999) (sym same) few;
    }

-- Rows parted after the first node and those below it.
pub record IsParted (n d skip : ℕ) (rows : List PlanRow) : Type 0 where
  pub some : 1 ≤ skip
  pub inside : skip ≤ length rows
  pub node : AreRows n d (take skip rows)
  pub one : (e : PlanRow) → (get_or (take skip rows) 0 e).skip ≡ length (take skip rows)
  pub first : 1 ≤ length (take skip rows)
  pub behind : AreRows n d (drop skip rows)
  pub ballots : ballots_of (nodes_of rows) ≡ ballots_of (nodes_of (take skip rows)) ++ ballots_of (nodes_of (drop skip rows))

parted_forest :
    (n d low : ℕ) (f : Forest) (e : PlanRow) → IsGrown n low d f → through f ≤ 999999999
    → 1 ≤ length (rows_of d f) → IsParted n d (get_or (rows_of d f) 0 e).skip (rows_of d f)
parted_forest n d low Bare e grown few some = absurd (omega arith)
parted_forest n d low (Grown c k inner next) e grown few some =
    let below = rows_of (d + 1) inner in
    let rest = rows_of d next in
    let skip = length below + 1 in
    let row : PlanRow = record { depth = d; candidate = c; ballots = k + through inner; skip = skip } in
    let front = rows_of d (Grown c k inner Bare) in
    let whole : front ++ rest ≡ rows_of d (Grown c k inner next) =
    ap (λ (l : List PlanRow). row ∷ (l ++ rest)) (append-nil below) in
    let long : length front ≡ skip = omega (arith, length-append below []) in
    let cut : take skip (rows_of d (Grown c k inner next)) ≡ front =
    ap (take skip) (sym whole) ∙ take_at front rest skip long in
    let left : drop skip (rows_of d (Grown c k inner next)) ≡ rest =
    ap (drop skip) (sym whole) ∙ drop_at front rest skip long in
    let alone : IsGrown n low d (Grown c k inner Bare) = (grown.0, grown.1, grown.2, grown.3, grown.4, tt) in
    let node_ballots :
    ballots_of (nodes_of (take skip (rows_of d (Grown c k inner next))))
    ≡ ballots_of (Grown c k inner Bare) =
    ap (λ l. ballots_of (nodes_of l)) cut ∙ ap ballots_of (nodes_of-rows_of d (Grown c k inner Bare)) in
    let rest_ballots : ballots_of (nodes_of (drop skip (rows_of d (Grown c k inner next)))) ≡ ballots_of next =
    ap (λ l. ballots_of (nodes_of l)) left ∙ ap ballots_of (nodes_of-rows_of d next) in
    let here = map (λ r. c ∷ r) (replicate k [] ++ ballots_of inner) in
    record {
      some = omega arith;
      inside = omega (arith, length-append below rest);
      node = subst (AreRows n d) (sym cut) (rows_of_forest n d low (Grown c k inner Bare) alone (omega arith));
      one =
          λ other.
          ap (λ (l : List PlanRow). (get_or l 0 other).skip) cut ∙ (sym long ∙ sym (ap length cut));
      first = omega (arith, ap length cut);
      behind = subst (AreRows n d) (sym left) (rows_of_forest n d c next grown.5 (omega arith));
      ballots =
          ap ballots_of (nodes_of-rows_of d (Grown c k inner next))
          ∙ (ap (λ l. l ++ ballots_of next) (sym (append-nil here))
          ∙ (ap (λ l. l ++ ballots_of next) (sym node_ballots)
          ∙ ap (λ l. ballots_of (nodes_of (take skip (rows_of d (Grown c k inner next)))) ++ l) (sym rest_ballots)));
    }

pub parted_rows :
    (n d : ℕ) (rows : List PlanRow) (e : PlanRow) → AreRows n d rows → 1 ≤ length rows
    → IsParted n d (get_or rows 0 e).skip rows
parted_rows n d rows e are some =
    let f = nodes_of rows in
    subst (λ (l : List PlanRow). IsParted n d (get_or l 0 e).skip l) (sym are.preorder)
    (parted_forest n d are.low f e are.grown are.few (omega (arith, ap length are.preorder)))

-- the ballots of the last of some rows, or `before` where there are none
abbrev pub last_ballots : (before : ℕ) → List PlanRow → ℕ
last_ballots before [] = before
last_ballots before (row ∷ rows) = last_ballots row.ballots rows

last-append : (before : ℕ) (xs ys : List PlanRow) → last_ballots before (xs ++ ys) ≡ last_ballots (last_ballots before xs) ys
last-append before [] ys = refl
last-append before (x ∷ xs) ys = last-append x.ballots xs ys

-- the last row has no more ballots than go through all
last-le : (before most d : ℕ) (f : Forest) → before ≤ most → through f ≤ most → last_ballots before (rows_of d f) ≤ most
last-le before most d Bare le all = le
last-le before most d (Grown c k inner next) le all =
    let below = rows_of (d + 1) inner in
    subst (λ m. m ≤ most) (sym (last-append (k + through inner) below (rows_of d next)))
    (last-le (last_ballots (k + through inner) below) most d next
    (last-le (k + through inner) most (d + 1) inner (omega arith) (omega arith)) (omega arith))

-- and the last of siblings no more than go through them
last-below :
    (before d c k : ℕ) (inner next : Forest)
    → last_ballots before (rows_of d (Grown c k inner next)) ≤ through (Grown c k inner next)
last-below before d c k inner next =
    let most = through (Grown c k inner next) in
    let below = rows_of (d + 1) inner in
    subst (λ m. m ≤ most) (sym (last-append (k + through inner) below (rows_of d next)))
    (last-le (last_ballots (k + through inner) below) most d next
    (last-le (k + through inner) most (d + 1) inner (omega arith) (omega arith)) (omega arith))

-- a map of equal elements
pub map-same : {X Y : Type 0} (n : ℕ) (f : X → Y) (x : X) → map f (replicate n x) ≡ replicate n (f x)
map-same zero f x = refl
map-same (suc n) f x = ap (λ l. f x ∷ l) (map-same n f x)

-- the candidates of rows
abbrev pub candidates : List PlanRow → List ℕ
candidates rows = map (λ row. row.candidate) rows

-- Nodes below a node through which m ballots go, of which n end there: where the last of them has m ballots, all go on
-- with the same candidates.
pub record IsRun (n d ends m : ℕ) (f : Forest) : Type 0 where
  pub alike : replicate ends [] ++ ballots_of f ≡ replicate m (candidates (rows_of d f))
  pub known : All (λ r. (1 ≤ r) × (r ≤ n)) (candidates (rows_of d f))
  pub short : length (rows_of d f) + d ≤ 251

pub run :
    (n low d ends m : ℕ) (f : Forest) → d ≤ 251 → IsGrown n low d f → m ≡ ends + through f
    → last_ballots m (rows_of d f) ≡ m → IsRun n d ends m f
run n low d ends m Bare shallow grown all last = record {
  alike = append-nil (replicate {A = List ℕ} ends []) ∙ ap (λ k. replicate {A = List ℕ} k []) (omega arith);
  known = λ k e lt. absurd (omega arith);
  short = omega arith;
}
run n low d ends m (Grown c k inner (Grown c' k' inner' next')) shallow grown all last =
    let next = Grown c' k' inner' next' in
    let below = rows_of (d + 1) inner in
    let first = last-append (k + through inner) below (rows_of d next) in
    let le = last-below (last_ballots (k + through inner) below) d c' k' inner' next' in
    absurd (omega (arith, grown.3))
run n low d ends m (Grown c k inner Bare) shallow grown all last =
    let below = rows_of (d + 1) inner in
    let nil : below ++ [] ≡ below = append-nil below in
    let last' : last_ballots (k + through inner) below ≡ m = ap (last_ballots (k + through inner)) (sym nil) ∙ last in
    let le = last-le (k + through inner) (k + through inner) (d + 1) inner (omega arith) (omega arith) in
    let none : ends ≡ 0 = omega arith in
    let same : k + through inner ≡ m = omega arith in
    let rest =
    run n 0 (d + 1) k m inner (omega (arith, grown.2)) grown.4 (sym same)
    (subst (λ q. last_ballots q below ≡ m) same last') in
    let ranks = candidates below in
    let ranks_nil : candidates (below ++ []) ≡ ranks = ap candidates nil in
    let step : map (λ r. c ∷ r) (replicate k [] ++ ballots_of inner) ≡ replicate m (c ∷ ranks) =
    ap (map (λ r. c ∷ r)) rest.alike ∙ map-same m (λ r. c ∷ r) ranks in
    record {
      alike =
          ap (λ q. replicate {A = List ℕ} q [] ++ (map (λ r. c ∷ r) (replicate k [] ++ ballots_of inner) ++ [])) none
          ∙ (append-nil (map (λ r. c ∷ r) (replicate k [] ++ ballots_of inner))
          ∙ (step ∙ ap (λ l. replicate m (c ∷ l)) (sym ranks_nil)));
      known =
          subst (λ (l : List ℕ). All (λ r. (1 ≤ r) × (r ≤ n)) (c ∷ l)) (sym ranks_nil)
          (All-cons (λ r. (1 ≤ r) × (r ≤ n)) c ranks (omega (arith, grown.0), grown.1) rest.known);
      short = omega (arith, rest.short, length-append below []);
    }
