-- The siblings below the roots of plans.
use Rattle.std.proofs.Common.{◌≡◌, ℕ, ◌+◌, ◌-◌, ◌≤◌, List, [], ◌∷◌, length, map, drop, get_or, sum, sum_by}
use Rattle.std.proofs.Common.{replicate, arith, refl, ap, sym, subst, ◌∙◌}
use Rattle.std.specs.List.{All}
use Rattle.std.proofs.lemmas.List.{length-append}
use Rattle.std.proofs.lemmas.List.Elements.{All-nil, All-cons, All-head, All-tail}
use Rattle.std.proofs.lemmas.List.Sums.{sum_by-append}
use Rattle.frozen_plan.specs.declared.plan_row.PlanRow.{PlanRow}
use Rattle.frozen_plan.specs.Forest.{Forest, ballots_of, through, IsGrown, nodes_of}
use Rattle.frozen_plan.specs.Plan.{PlanRows, IsPlan, forest_of, ballot_count, plan_ballots, all_ballots}
use Rattle.meek_rule.specs.Weights.{given}
use Rattle.vote_spread.specs.Stem.{Stem}
use Rattle.vote_spread.specs.Gain.{gains}
use Rattle.vote_spread.specs.Packed.{StandFor, AreRows}
use Rattle.vote_spread.specs.Merged.{part_ballots, AreParts, AreOfAll, HasMerged}
use Rattle.vote_spread.proofs.StandLemmas.{given-ends}
use Rattle.vote_spread.proofs.RowLemmas.{nodes_of-rows_of}
use Rattle.vote_spread.proofs.PlanLemmas.{rows_of_plan}
use Rattle.vote_spread.proofs.PartLemmas.{part-cons}

rows_at_root : (n : ℕ) (rows : List PlanRow) → IsPlan n rows → nodes_of (drop 1 rows) ≡ forest_of rows
rows_at_root n rows plan = ap (λ (l : List PlanRow). nodes_of (drop 1 l)) plan.preorder ∙ nodes_of-rows_of 1 (forest_of rows)

root_few :
    (plans : List PlanRows) → All (λ plan. IsPlan plan.candidates plan.rows) plans
    → length (part_ballots (map (λ plan. drop 1 plan.rows) plans)) ≤ length (all_ballots plans)
root_few [] are = omega arith
root_few (plan ∷ plans) are =
    let P : PlanRows → Type 0 = λ p. IsPlan p.candidates p.rows in
    let one = All-head P plan plans are in
    let f = forest_of plan.rows in
    let k = ballot_count plan.rows - through f in
    let low = ballots_of (nodes_of (drop 1 plan.rows)) in
    let same : length low ≡ length (ballots_of f) =
    ap (λ (g : Forest). length (ballots_of g)) (rows_at_root plan.candidates plan.rows one) in
    omega (
      arith,
      same,
      root_few plans (All-tail P plan plans are),
      length-append low (part_ballots (map (λ (p : PlanRows). drop 1 p.rows) plans)),
      length-append (plan_ballots plan.rows) (all_ballots plans),
      length-append (replicate {A = List ℕ} k []) (ballots_of f),
    )

each_part :
    (plans : List PlanRows) → All (λ plan. IsPlan plan.candidates plan.rows) plans
    → All (AreRows 250 1) (map (λ plan. drop 1 plan.rows) plans)
each_part [] are = All-nil (AreRows 250 1)
each_part (plan ∷ plans) are =
    let P : PlanRows → Type 0 = λ p. IsPlan p.candidates p.rows in
    All-cons (AreRows 250 1) (drop 1 plan.rows) (map (λ (p : PlanRows). drop 1 p.rows) plans)
    (rows_of_plan plan.candidates plan.rows (All-head P plan plans are))
    (each_part plans (All-tail P plan plans are))

pub parts_of_plans :
    (plans : List PlanRows) → All (λ plan. IsPlan plan.candidates plan.rows) plans
    → length (all_ballots plans) ≤ 999999999 → AreParts 1 (map (λ plan. drop 1 plan.rows) plans)
parts_of_plans plans are few = record {
  each = each_part plans are;
  few = omega (arith, root_few plans are, few);
}

of_all_plans :
    (n : ℕ) (plans : List PlanRows) → All (λ plan. IsPlan plan.candidates plan.rows) plans
    → All (λ plan. plan.candidates ≡ n) plans → All (AreOfAll n 1) (map (λ plan. drop 1 plan.rows) plans)
of_all_plans n [] are of_all = All-nil (AreOfAll n 1)
of_all_plans n (plan ∷ plans) are of_all =
    let P : PlanRows → Type 0 = λ p. IsPlan p.candidates p.rows in
    let Q : PlanRows → Type 0 = λ p. p.candidates ≡ n in
    let one = All-head P plan plans are in
    let own : IsGrown plan.candidates 0 1 (nodes_of (drop 1 plan.rows)) =
    subst (IsGrown plan.candidates 0 1) (sym (rows_at_root plan.candidates plan.rows one)) one.grown in
    All-cons (AreOfAll n 1) (drop 1 plan.rows) (map (λ (p : PlanRows). drop 1 p.rows) plans)
    (record { low = 0; grown = subst (λ m. IsGrown m 0 1 (nodes_of (drop 1 plan.rows))) (All-head Q plan plans of_all) own })
    (of_all_plans n plans (All-tail P plan plans are) (All-tail Q plan plans of_all))

-- ballots that name nobody give nothing
roots_give :
    (s : ℕ) (keeps : List ℕ) (w c : ℕ) (plans : List PlanRows)
    → All (λ plan. IsPlan plan.candidates plan.rows) plans
    → sum_by (λ r. given s keeps w r c) (part_ballots (map (λ plan. drop 1 plan.rows) plans))
    ≡ sum_by (λ r. given s keeps w r c) (all_ballots plans)
roots_give s keeps w c [] are = refl
roots_give s keeps w c (plan ∷ plans) are =
    let P : PlanRows → Type 0 = λ p. IsPlan p.candidates p.rows in
    let f : List ℕ → ℕ = λ r. given s keeps w r c in
    let g = forest_of plan.rows in
    let parts = map (λ (p : PlanRows). drop 1 p.rows) plans in
    let own : sum_by f (ballots_of (nodes_of (drop 1 plan.rows))) ≡ sum_by f (plan_ballots plan.rows) =
    ap (λ (h : Forest). sum_by f (ballots_of h))
    (rows_at_root plan.candidates plan.rows (All-head P plan plans are))
    ∙ sym (given-ends s keeps w c (ballot_count plan.rows - through g) (ballots_of g)) in
    omega (
      arith,
      part-cons f (drop 1 plan.rows) parts,
      own,
      roots_give s keeps w c plans (All-tail P plan plans are),
      sum_by-append f (plan_ballots plan.rows) (all_ballots plans),
    )

-- all plans are packed
pub merged_plans :
    (n : ℕ) (plans : List PlanRows) (stems : List Stem) → All (λ plan. IsPlan plan.candidates plan.rows) plans
    → All (λ plan. plan.candidates ≡ n) plans → HasMerged 1 (map (λ plan. drop 1 plan.rows) plans) [] stems
    → StandFor n 1 stems (all_ballots plans)
merged_plans n plans stems are of_all has =
    let parts = map (λ (plan : PlanRows). drop 1 plan.rows) plans in
    let stand =
    subst (λ (l : List Stem). StandFor n 1 l (part_ballots parts)) (sym has.is)
    (has.stand n (of_all_plans n plans are of_all)) in
    record {
      deep = stand.deep;
      from = stand.from;
      walk = stand.walk;
      gives =
          λ s keeps c weights rest is walk long.
          stand.gives s keeps c weights rest is walk long
          ∙ ap (λ m. m + sum (gains s keeps c weights rest)) (roots_give s keeps (get_or weights (1 - 1) 0) c plans are);
    }
