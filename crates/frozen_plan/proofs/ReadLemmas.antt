-- The nodes that rows say are those that the rows were made of.
use Rattle.std.proofs.Common.{◌≡◌, ℕ, ◌+◌, ◌-◌, ◌≤◌, List, [], ◌∷◌, ◌++◌, length, map, take, drop, replicate}
use Rattle.std.proofs.Common.{arith, refl, ap, sym, ◌∙◌, zero, suc, subst}
use Rattle.std.proofs.lemmas.List.{length-append, length-map, length-replicate, take_at, drop_at}
use Rattle.frozen_plan.specs.declared.plan_row.PlanRow.{PlanRow}
use Rattle.frozen_plan.specs.Forest.{Forest, Bare, Grown, ballots_of, through, rows_of, IsGrown, read}
use Rattle.frozen_plan.specs.Plan.{forest_of, ballot_count, plan_ballots, plan_rows, IsPlan}

pub read-rows_of : (t d : ℕ) (f : Forest) → length (rows_of d f) ≤ t → read t (rows_of d f) ≡ f
read-rows_of zero d Bare le = refl
read-rows_of (suc t) d Bare le = refl
read-rows_of zero d (Grown c n inner next) le = absurd (omega arith)
read-rows_of (suc t) d (Grown c n inner next) le =
    let low = rows_of (d + 1) inner in
    let behind = rows_of d next in
    let size = length-append low behind in
    let skip : (length low + 1) - 1 ≡ length low = omega arith in
    let cut : take ((length low + 1) - 1) (low ++ behind) ≡ low =
    ap (λ m. take m (low ++ behind)) skip ∙ take_at low behind (length low) refl in
    let rest : drop ((length low + 1) - 1) (low ++ behind) ≡ behind =
    ap (λ m. drop m (low ++ behind)) skip ∙ drop_at low behind (length low) refl in
    let one : read t (take ((length low + 1) - 1) (low ++ behind)) ≡ inner =
    ap (read t) cut ∙ read-rows_of t (d + 1) inner (omega arith) in
    let two : read t (drop ((length low + 1) - 1) (low ++ behind)) ≡ next =
    ap (read t) rest ∙ read-rows_of t d next (omega arith) in
    let ends : (n + through inner) - through (read t (take ((length low + 1) - 1) (low ++ behind))) ≡ n =
    ap (λ (g : Forest). (n + through inner) - through g) one ∙ omega arith in
    ap (λ (m : ℕ). Grown c m (read t (take ((length low + 1) - 1) (low ++ behind)))
    (read t (drop ((length low + 1) - 1) (low ++ behind)))) ends
    ∙ (ap (λ (g : Forest). Grown c n g (read t (drop ((length low + 1) - 1) (low ++ behind)))) one
    ∙ ap (λ (g : Forest). Grown c n inner g) two)

-- the nodes below the root
pub forest_of-plan_rows : (ends : ℕ) (f : Forest) → forest_of (plan_rows ends f) ≡ f
forest_of-plan_rows ends f = read-rows_of (length (plan_rows ends f)) 1 f (omega arith)

-- those that end at the root
ends-plan_rows : (ends : ℕ) (f : Forest) → ballot_count (plan_rows ends f) - through (forest_of (plan_rows ends f)) ≡ ends
ends-plan_rows ends f = ap (λ (g : Forest). (ends + through f) - through g) (forest_of-plan_rows ends f) ∙ omega arith

-- these rows are a plan
pub plan_of_rows :
    (n ends : ℕ) (f : Forest) → n ≤ 250 → IsGrown n 0 1 f → ends + through f ≤ 999999999
    → IsPlan n (plan_rows ends f)
plan_of_rows n ends f limit grown few =
    let same :
    plan_rows (ballot_count (plan_rows ends f) - through (forest_of (plan_rows ends f)))
    (forest_of (plan_rows ends f)) ≡ plan_rows ends f =
    ap (λ (m : ℕ). plan_rows m (forest_of (plan_rows ends f))) (ends-plan_rows ends f)
    ∙ ap (plan_rows ends) (forest_of-plan_rows ends f) in
    record {
      few_candidates = limit;
      preorder = sym same;
      grown = subst (λ (g : Forest). IsGrown n 0 1 g) (sym (forest_of-plan_rows ends f)) grown;
      few = few;
    }

-- and stand for these ballots
pub ballots_of_rows : (ends : ℕ) (f : Forest) → plan_ballots (plan_rows ends f) ≡ replicate ends [] ++ ballots_of f
ballots_of_rows ends f =
    ap (λ (k : ℕ). replicate k [] ++ ballots_of (forest_of (plan_rows ends f))) (ends-plan_rows ends f)
    ∙ ap (λ (g : Forest). replicate ends [] ++ ballots_of g) (forest_of-plan_rows ends f)

-- the ballots that go through the nodes are these
pub length-ballots_of : (f : Forest) → length (ballots_of f) ≡ through f
length-ballots_of Bare = refl
length-ballots_of (Grown c n inner next) =
    let ends : List (List ℕ) = replicate n [] in
    let a = length-append (map (λ r. c ∷ r) (ends ++ ballots_of inner)) (ballots_of next) in
    let b = length-map (ends ++ ballots_of inner) (λ r. c ∷ r) in
    let d = length-append ends (ballots_of inner) in
    let e = length-replicate {A = List ℕ} n [] in
    omega (arith, a, b, d, e, length-ballots_of inner, length-ballots_of next)

-- the root counts all ballots
pub length-plan_ballots : (n : ℕ) (rows : List PlanRow) → IsPlan n rows → length (plan_ballots rows) ≡ ballot_count rows
length-plan_ballots n rows is =
    let f = forest_of rows in
    let ends : List (List ℕ) = replicate (ballot_count rows - through f) [] in
    let a = length-append ends (ballots_of f) in
    let b = length-replicate {A = List ℕ} (ballot_count rows - through f) [] in
    let all : ballot_count rows ≡ (ballot_count rows - through f) + through f = ap ballot_count is.preorder in
    omega (arith, a, b, all, length-ballots_of f)
