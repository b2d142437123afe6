-- The lines at the rows of a forest.
use Rattle.std.proofs.Common.{◌≡◌, ℕ, ◌+◌, ◌-◌, ◌≤◌, List, [], ◌∷◌, ◌++◌, length, map, get_or, take, drop}
use Rattle.std.proofs.Common.{set, replicate, All, arith, refl, ap, sym, subst, ◌∙◌, zero, suc, append_assoc}
use Rattle.std.proofs.Common.{append-nil}
use Rattle.std.proofs.lemmas.List.{length-append, length-set, take_at, drop_at, take-set-le, take_more_set, map-append}
use Rattle.std.proofs.lemmas.List.Elements.{All-nil, All-cons, All-append}
use Rattle.frozen_plan.specs.declared.plan_row.PlanRow.{PlanRow}
use Rattle.frozen_plan.specs.Forest.{Forest, Bare, Grown, ballots_of, through, rows_of, IsGrown, nodes_of}
use Rattle.frozen_plan.specs.Plan.{forest_of, ballot_count, plan_ballots, plan_rows, IsPlan}
use Rattle.frozen_plan.proofs.ReadLemmas.{read-rows_of}
use Rattle.plain_ballots.specs.declared.ballot_line.BallotLine.{BallotLine}
use Rattle.plain_ballots.specs.Ballots.{plain}
use Rattle.plain_ballots.proofs.PlainLemmas.{plain-append}
use Rattle.blt_writer.specs.Walk.{below, ends_at, line_at, lines_behind, lines_from, IsNode, AreNodes, IsRest}

-- the lines of siblings after a front that leads to them, and of all below them
abbrev pub lines_of : (front : List ℕ) → Forest → List BallotLine
lines_of p Bare = []
lines_of p (Grown c n inner next) =
    record { count = n; ranking = p ++ c ∷ [] } ∷ (lines_of (p ++ c ∷ []) inner ++ lines_of p next)

-- the path when all of them were gone through
abbrev path_after : (path : List ℕ) → (depth : ℕ) → Forest → List ℕ
path_after p d Bare = p
path_after p d (Grown c n inner next) = path_after (path_after (set p (d - 1) c) (d + 1) inner) d next

-- the path above the siblings stays
front_kept : (p : List ℕ) (d : ℕ) (f : Forest) (k : ℕ) → k + 1 ≤ d → take k (path_after p d f) ≡ take k p
front_kept p d Bare k above = refl
front_kept p d (Grown c n inner next) k above =
    front_kept (path_after (set p (d - 1) c) (d + 1) inner) d next k above
    ∙ (front_kept (set p (d - 1) c) (d + 1) inner k (omega arith) ∙ take-set-le k p (d - 1) c (omega arith))

length_kept : (p : List ℕ) (d : ℕ) (f : Forest) → length (path_after p d f) ≡ length p
length_kept p d Bare = refl
length_kept p d (Grown c n inner next) =
    length_kept (path_after (set p (d - 1) c) (d + 1) inner) d next
    ∙ (length_kept (set p (d - 1) c) (d + 1) inner ∙ length-set p (d - 1) c)

-- the nodes that the rows of a forest say
nodes_are : (d : ℕ) (f : Forest) → nodes_of (rows_of d f) ≡ f
nodes_are d f = read-rows_of (length (rows_of d f)) d f (omega arith)

-- the rows right after a row, as many as it has below it
below_is :
    (d : ℕ) (inner : Forest) (rest : List PlanRow)
    → take ((length (rows_of d inner) + 1) - 1) (rows_of d inner ++ rest) ≡ rows_of d inner
below_is d inner rest =
    let low = rows_of d inner in
    let skip : (length low + 1) - 1 ≡ length low = omega arith in
    ap (λ m. take m (low ++ rest)) skip ∙ take_at low rest (length low) refl

ends_are :
    (d n : ℕ) (inner : Forest) (rest : List PlanRow)
    → (n + through inner)
    - through (nodes_of (take ((length (rows_of d inner) + 1) - 1) (rows_of d inner ++ rest))) ≡ n
ends_are d n inner rest =
    let same : nodes_of (take ((length (rows_of d inner) + 1) - 1) (rows_of d inner ++ rest)) ≡ inner =
    ap nodes_of (below_is d inner rest) ∙ nodes_are d inner in
    ap (λ (g : Forest). (n + through inner) - through g) same ∙ omega arith

-- the row of a node
abbrev row_of : (d c n : ℕ) → Forest → PlanRow
row_of d c n inner =
    record
    { depth = d; candidate = c; ballots = n + through inner; skip = length (rows_of (d + 1) inner) + 1 }

-- The lines of a forest's rows are its lines.
pub walk_lines :
    (path : List ℕ) (n low d : ℕ) (f : Forest) (rest : List PlanRow) → 1 ≤ d → length path ≡ 250 → IsGrown n low d f
    → lines_behind path (rows_of d f ++ rest) ≡ lines_of (take (d - 1) path) f ++ lines_behind (path_after path d f) rest
walk_lines path n low d Bare rest some long grown = refl
walk_lines path n low d (Grown c m inner next) rest some long grown =
    let front = take (d - 1) path in
    let here = set path (d - 1) c in
    let then = path_after here (d + 1) inner in
    let under = rows_of (d + 1) inner in
    let others = rows_of d next in
    let row : PlanRow = row_of d c m inner in
    let one : d - 1 + 1 ≡ d = omega arith in
    let ranking : take d here ≡ front ++ c ∷ [] =
    ap (λ j. take j here) (sym one) ∙ take_more_set path (d - 1) c (omega (arith, grown.2)) in
    let cut : (under ++ others) ++ rest ≡ under ++ (others ++ rest) = append_assoc under others rest in
    let count : ends_at row (under ++ (others ++ rest)) ≡ m = ends_are (d + 1) m inner (others ++ rest) in
    let line : BallotLine = record { count = m; ranking = front ++ c ∷ [] } in
    let first : line_at here row (under ++ (others ++ rest)) ≡ line =
    ap (λ (k : ℕ). let l : BallotLine = record { count = k; ranking = take d here } in l) count
    ∙ ap (λ (r : List ℕ). let l : BallotLine = record { count = m; ranking = r } in l) ranking in
    let deeper : d + 1 - 1 ≡ d = omega arith in
    let inside :
    lines_behind here (under ++ (others ++ rest))
    ≡ lines_of (front ++ c ∷ []) inner ++ lines_behind then (others ++ rest) =
    walk_lines here n 0 (d + 1) inner (others ++ rest) (omega arith) (length-set path (d - 1) c ∙ long) grown.4
    ∙ ap (λ (q : List ℕ). lines_of q inner ++ lines_behind then (others ++ rest)) (ap (λ j. take j here) deeper ∙ ranking) in
    let kept : take (d - 1) then ≡ front =
    front_kept here (d + 1) inner (d - 1) (omega arith)
    ∙ take-set-le (d - 1) path (d - 1) c (omega arith) in
    let behind : lines_behind then (others ++ rest) ≡ lines_of front next ++ lines_behind (path_after then d next) rest =
    walk_lines then n c d next rest some (length_kept here (d + 1) inner ∙ (length-set path (d - 1) c ∙ long)) grown.5
    ∙ ap (λ (q : List ℕ). lines_of q next ++ lines_behind (path_after then d next) rest) kept in
    ap (λ (l : List PlanRow). line_at here row l ∷ lines_behind here l) cut
    ∙ (ap (λ (l : BallotLine). l ∷ lines_behind here (under ++ (others ++ rest))) first
    ∙ (ap (λ (l : List BallotLine). line ∷ l) inside
    ∙ (ap (λ (l : List BallotLine). line ∷ (lines_of (front ++ c ∷ []) inner ++ l)) behind
    ∙ ap (λ (l : List BallotLine). line ∷ l) (sym (append_assoc (lines_of (front ++ c ∷ []) inner)
    (lines_of front next) (lines_behind (path_after then d next) rest))))))

-- ---- the ballots of the lines

map_led :
    (p : List ℕ) (c : ℕ) (xs : List (List ℕ))
    → map (λ r. (p ++ c ∷ []) ++ r) xs ≡ map (λ r. p ++ r) (map (λ r. c ∷ r) xs)
map_led p c [] = refl
map_led p c (x ∷ xs) =
    ap (λ (r : List ℕ). r ∷ map (λ q. (p ++ c ∷ []) ++ q) xs) (append_assoc p (c ∷ []) x)
    ∙ ap (λ (l : List (List ℕ)). (p ++ c ∷ x) ∷ l) (map_led p c xs)

map_none : (q : List ℕ) (n : ℕ) → map (λ r. q ++ r) (replicate n []) ≡ replicate n q
map_none q zero = refl
map_none q (suc n) =
    ap (λ (r : List ℕ). r ∷ map (λ s. q ++ s) (replicate n [])) (append-nil q)
    ∙ ap (λ (l : List (List ℕ)). q ∷ l) (map_none q n)

pub plain-lines_of : (p : List ℕ) (f : Forest) → plain (lines_of p f) ≡ map (λ r. p ++ r) (ballots_of f)
plain-lines_of p Bare = refl
plain-lines_of p (Grown c n inner next) =
    let q = p ++ c ∷ [] in
    let ended : List (List ℕ) = replicate n [] in
    let deep = ballots_of inner in
    let add : List ℕ → List ℕ = λ r. p ++ r in
    let under : replicate n q ++ map (λ r. q ++ r) deep ≡ map add (map (λ r. c ∷ r) (ended ++ deep)) =
    ap (λ (l : List (List ℕ)). l ++ map (λ r. q ++ r) deep) (sym (map_none q n))
    ∙ (sym (map-append (λ r. q ++ r) ended deep) ∙ map_led p c (ended ++ deep)) in
    ap (λ (l : List (List ℕ)). replicate n q ++ l) (plain-append (lines_of q inner) (lines_of p next))
    ∙ (ap (λ (l : List (List ℕ)). replicate n q ++ (l ++ plain (lines_of p next))) (plain-lines_of q inner)
    ∙ (ap (λ (l : List (List ℕ)). replicate n q ++ (map (λ r. q ++ r) deep ++ l)) (plain-lines_of p next)
    ∙ (sym (append_assoc (replicate n q) (map (λ r. q ++ r) deep) (map add (ballots_of next)))
    ∙ (ap (λ (l : List (List ℕ)). l ++ map add (ballots_of next)) under
    ∙ sym (map-append add (map (λ r. c ∷ r) (ended ++ deep)) (ballots_of next))))))

-- ---- each row has those below it right after

pub nodes_of_rows :
    (n low d : ℕ) (f : Forest) (rest : List PlanRow) → IsGrown n low d f → AreNodes rest
    → AreNodes (rows_of d f ++ rest)
nodes_of_rows n low d Bare rest grown are = are
nodes_of_rows n low d (Grown c m inner next) rest grown are =
    let under = rows_of (d + 1) inner in
    let others = rows_of d next in
    let row : PlanRow = row_of d c m inner in
    let cut : (under ++ others) ++ rest ≡ under ++ (others ++ rest) = append_assoc under others rest in
    let later = nodes_of_rows n 0 (d + 1) inner (others ++ rest) grown.4 (nodes_of_rows n c d next rest grown.5 are) in
    let size = length-append under (others ++ rest) in
    let is = below_is (d + 1) inner (others ++ rest) in
    let same : nodes_of (below row (under ++ (others ++ rest))) ≡ inner = ap nodes_of is ∙ nodes_are (d + 1) inner in
    let node : IsNode row (under ++ (others ++ rest)) = record {
      some = omega arith;
      inside = omega (arith, size);
      below_are = is ∙ ap (rows_of (d + 1)) (sym same);
      enough = omega (arith, ap through same);
      deep = grown.2;
    } in
    subst (λ (l : List PlanRow). IsNode row l × AreNodes l) (sym cut) (node, later)

pub below_root : (n low d : ℕ) (f : Forest) → 1 ≤ d → All (λ (row : PlanRow). 1 ≤ row.depth) (rows_of d f)
below_root n low d Bare some = All-nil (λ (row : PlanRow). 1 ≤ row.depth)
below_root n low d (Grown c m inner next) some =
    let P : PlanRow → Type 0 = λ row. 1 ≤ row.depth in
    All-cons P (row_of d c m inner) (rows_of (d + 1) inner ++ rows_of d next) some
    (All-append P (rows_of (d + 1) inner) (rows_of d next) (below_root n low (d + 1) inner (omega arith))
    (below_root n low d next some))

-- ---- siblings, one after the other

-- the first of some siblings, and its next siblings after those below it
pub record IsStep (d : ℕ) (rows : List PlanRow) (row : PlanRow) : Type 0 where
  pub some : 1 ≤ row.skip
  pub inside : row.skip ≤ length rows
  pub behind : drop row.skip rows ≡ rows_of d (nodes_of (drop row.skip rows))
  pub goes_through : through (nodes_of rows) ≡ row.ballots + through (nodes_of (drop row.skip rows))

step_forest :
    (d : ℕ) (f : Forest) (e : PlanRow) → 1 ≤ length (rows_of d f)
    → IsStep d (rows_of d f) (get_or (rows_of d f) 0 e)
step_forest d Bare e some = absurd (omega arith)
step_forest d (Grown c m inner next) e some =
    let under = rows_of (d + 1) inner in
    let others = rows_of d next in
    let row : PlanRow = row_of d c m inner in
    let one : length under + 1 ≡ suc (length under) = omega arith in
    let gone : drop (length under + 1) (row ∷ (under ++ others)) ≡ others =
    ap (λ j. drop j (row ∷ (under ++ others))) one ∙ drop_at under others (length under) refl in
    let behind : nodes_of (drop (length under + 1) (row ∷ (under ++ others))) ≡ next = ap nodes_of gone ∙ nodes_are d next in
    record {
      some = omega arith;
      inside = omega (arith, length-append under others);
      behind = gone ∙ ap (rows_of d) (sym behind);
      goes_through =
          ap through (nodes_are d (Grown c m inner next))
          ∙ ap (λ (g : Forest). m + through inner + through g) (sym behind);
    }

pub siblings_step :
    (d : ℕ) (rows : List PlanRow) (e : PlanRow) → rows ≡ rows_of d (nodes_of rows) → 1 ≤ length rows
    → IsStep d rows (get_or rows 0 e)
siblings_step d rows e are some =
    subst (λ (l : List PlanRow). IsStep d l (get_or l 0 e)) (sym are)
    (step_forest d (nodes_of rows) e (omega (arith, ap length are)))

-- ---- a whole plan

-- the rows of a plan are its root and those of its nodes
pub plan_is :
    (n : ℕ) (rows : List PlanRow) → IsPlan n rows → (path : List ℕ) → length path ≡ 250
    → lines_from path rows
    ≡ record { count = ballot_count rows - through (forest_of rows); ranking = [] }
    ∷ lines_of [] (forest_of rows)
plan_is n rows plan path long =
    let f = forest_of rows in
    let ends = ballot_count rows - through f in
    let none : List PlanRow = [] in
    let whole : rows_of 1 f ++ none ≡ rows_of 1 f = append-nil (rows_of 1 f) in
    let walked : lines_behind path (rows_of 1 f) ≡ lines_of [] f =
    ap (lines_behind path) (sym whole)
    ∙ (walk_lines path n 0 1 f none (omega arith) long plan.grown ∙ append-nil (lines_of [] f)) in
    let all : take ((length (rows_of 1 f) + 1) - 1) (rows_of 1 f) ≡ rows_of 1 f =
    ap (λ (l : List PlanRow). take ((length (rows_of 1 f) + 1) - 1) l) (sym whole) ∙ below_is 1 f none in
    let same : nodes_of (take ((length (rows_of 1 f) + 1) - 1) (rows_of 1 f)) ≡ f = ap nodes_of all ∙ nodes_are 1 f in
    let count : (ends + through f) - through (nodes_of (take ((length (rows_of 1 f) + 1) - 1) (rows_of 1 f))) ≡ ends =
    ap (λ (g : Forest). (ends + through f) - through g) same ∙ omega arith in
    ap (lines_from path) plan.preorder
    ∙ (ap (λ (k : ℕ). let l : BallotLine = record { count = k; ranking = [] } in l ∷ lines_behind path (rows_of 1 f)) count
    ∙ ap (λ (ls : List BallotLine). let l : BallotLine = record { count = ends; ranking = [] } in l ∷ ls) walked)

map_front : (xs : List (List ℕ)) → map (λ (r : List ℕ). [] ++ r) xs ≡ xs
map_front [] = refl
map_front (x ∷ xs) = ap (λ (l : List (List ℕ)). x ∷ l) (map_front xs)

-- the lines of a plan stand for its ballots
pub plain-plan :
    (n : ℕ) (rows : List PlanRow) → IsPlan n rows → (path : List ℕ) → length path ≡ 250
    → plain (lines_from path rows) ≡ plan_ballots rows
plain-plan n rows plan path long =
    let f = forest_of rows in
    ap plain (plan_is n rows plan path long)
    ∙ ap (λ (l : List (List ℕ)). replicate (ballot_count rows - through f) [] ++ l)
    (plain-lines_of [] f ∙ map_front (ballots_of f))

rest_of_rows : (n ends : ℕ) (f : Forest) → IsGrown n 0 1 f → IsRest (plan_rows ends f)
rest_of_rows n ends f grown =
    let none : List PlanRow = [] in
    let whole : rows_of 1 f ++ none ≡ rows_of 1 f = append-nil (rows_of 1 f) in
    let all : take ((length (rows_of 1 f) + 1) - 1) (rows_of 1 f) ≡ rows_of 1 f =
    ap (λ (l : List PlanRow). take ((length (rows_of 1 f) + 1) - 1) l) (sym whole) ∙ below_is 1 f none in
    let same : nodes_of (take ((length (rows_of 1 f) + 1) - 1) (rows_of 1 f)) ≡ f = ap nodes_of all ∙ nodes_are 1 f in
    record {
      nodes = (
        record {
          some = omega arith;
          inside = omega arith;
          below_are = all ∙ ap (rows_of 1) (sym same);
          enough = omega (arith, ap through same);
          deep = omega arith;
        },
        subst AreNodes whole (nodes_of_rows n 0 1 f none grown tt),
      );
      below_root = below_root n 0 1 f (omega arith);
    }

-- and are rows from the root on
pub rest_of_plan : (n : ℕ) (rows : List PlanRow) → IsPlan n rows → IsRest rows
rest_of_plan n rows plan =
    subst IsRest (sym plan.preorder)
    (rest_of_rows n (ballot_count rows - through (forest_of rows)) (forest_of rows) plan.grown)
