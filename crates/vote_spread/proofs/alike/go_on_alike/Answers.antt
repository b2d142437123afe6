use Rattle.std.proofs.Common.{◌≡◌, ℕ, ◌<◌, List, length, get_or, arith, inl, inr, refl, subst, ◌∙◌}
use Rattle.std.proofs.lemmas.Bool.{cases_lt}
use Rattle.std.proofs.lemmas.List.{get_or_read}
use Rattle.frozen_plan.specs.declared.plan_row.PlanRow.{PlanRow}
use Rattle.vote_spread.specs.Merged.{GoesOnLike}
use Rattle.vote_spread.proofs.alike.go_on_alike.Goals as goal

pub loop-node-preserved : goal.loop-node-preserved
loop-node-preserved c =
    λ d e k lt.
    let nodes = c.args.nodes.now in
    let i : ℕ = c.loop-node.node-index in
    let inside : i < length nodes = omega arith in
    let first : c.rows-first.result.now ≡ get_or nodes 0 d =
    c.rows-first.ensures
    ∙ get_or_read nodes 0 c.index-nodes-0.result (omega arith) c.index-nodes-0.is d in
    let here : c.rows.result.now ≡ get_or nodes i e =
    c.rows.ensures ∙ get_or_read nodes i c.node-item.result inside c.node-item.is e in
    let like : GoesOnLike c.rows-first.result.now c.rows.result.now = c.if-not-goes_on_like.ensures refl in
    let has : GoesOnLike (get_or nodes 0 d) (get_or nodes i e) =
    subst (λ (l : List PlanRow). GoesOnLike l (get_or nodes i e)) first
    (subst (GoesOnLike c.rows-first.result.now) here like) in
    elim (cases_lt k i) [
      | inl before ↦ c.loop-node.invariant d e k before
      | inr after ↦
          let same : i ≡ k = omega arith in subst (λ (j : ℕ). GoesOnLike (get_or nodes 0 d) (get_or nodes j e)) same has
    ]
