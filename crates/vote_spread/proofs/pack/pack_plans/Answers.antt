use Rattle.std.proofs.Common.{◌≡◌, List, [], map, drop, ap, sym, subst, ◌∙◌}
use Rattle.std.specs.List.{All}
use Rattle.frozen_plan.specs.declared.plan_row.PlanRow.{PlanRow}
use Rattle.frozen_plan.specs.Plan.{PlanRows, IsPlan}
use Rattle.vote_spread.specs.Stem.{Stem}
use Rattle.vote_spread.specs.Merged.{AreParts, HasMerged}
use Rattle.vote_spread.proofs.RootLemmas.{parts_of_plans, merged_plans}
use Rattle.vote_spread.proofs.pack.pack_plans.Goals as goal

pub merge-requires-clause-parts : goal.merge-requires-clause-parts
merge-requires-clause-parts c =
    let plans = c.args.plans in
    let items : c.items.result.now ≡ plans = c.items.ensures in
    let parts : c.as_mut_slice.result.now ≡ map (λ (plan : PlanRows). drop 1 plan.rows) plans =
    c.as_mut_slice.ensures.value ∙ (c.in_ok-parts.ensures.parts ∙ ap (map (λ (plan : PlanRows). drop 1 plan.rows)) items) in
    subst (AreParts 1) (sym parts) (parts_of_plans plans (subst
    (λ (l : List PlanRows). All (λ (plan : PlanRows). IsPlan plan.candidates plan.rows) l) items
    c.in_ok-parts.ensures.plans) c.requires.few)

pub returns : goal.returns
returns c =
    let plans = c.args.plans in
    let items : c.items.result.now ≡ plans = c.items.ensures in
    let parts : c.as_mut_slice.result.now ≡ map (λ (plan : PlanRows). drop 1 plan.rows) plans =
    c.as_mut_slice.ensures.value ∙ (c.in_ok-parts.ensures.parts ∙ ap (map (λ (plan : PlanRows). drop 1 plan.rows)) items) in
    let has : HasMerged 1 (map (λ (plan : PlanRows). drop 1 plan.rows) plans) [] c.merge.new.branches =
    subst (λ (l : List Stem). HasMerged 1 (map (λ (plan : PlanRows). drop 1 plan.rows) plans) l
    c.merge.new.branches) c.new-branches.ensures
    (subst (λ (l : List (List PlanRow)). HasMerged 1 l c.new-branches.result c.merge.new.branches) parts
    c.in_ok-merge.ensures.merged) in
    λ n of_all. merged_plans n plans c.merge.new.branches (subst
    (λ (l : List PlanRows). All (λ (plan : PlanRows). IsPlan plan.candidates plan.rows) l) items
    c.in_ok-parts.ensures.plans) of_all has
