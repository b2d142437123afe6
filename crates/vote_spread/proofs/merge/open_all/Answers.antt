use Rattle.std.proofs.Common.{◌≤◌, ℕ, ◌<◌, List, [], ◌∷◌, length, get_or, set, take, drop, sum_by, ap, sym}
use Rattle.std.proofs.Common.{subst, ◌∙◌, arith}
use Rattle.std.proofs.lemmas.List.{take_more}
use Rattle.std.proofs.lemmas.List.Edits.{map_over_more}
use Rattle.std.proofs.lemmas.List.Sums.{sum_by-append, sum_by-cons, sum_by_more_le}
use Rattle.frozen_plan.specs.declared.plan_row.PlanRow.{PlanRow}
use Rattle.vote_spread.specs.Merged.{first_ballots}
use Rattle.vote_spread.proofs.PartLemmas.{item_is}
use Rattle.vote_spread.proofs.merge.open_all.Goals as goal

abbrev low : List PlanRow → List PlanRow
low rows = drop 1 rows

pub open-ballots-requires : goal.open-ballots-requires
open-ballots-requires c =
    let nodes = c.args.nodes.now in
    let i : ℕ = c.loop-node.node-index in
    let x = c.node-item.result in
    let inside : i < length nodes = omega arith in
    let is = item_is low nodes c.loop-node.nodes i x inside c.loop-node.invariant.below c.node-item.is in
    subst (λ (r : List PlanRow). 1 ≤ length r) (sym is ∙ c.node-item.is) (c.requires.some i x inside)

pub overflow_add-ballots : goal.overflow_add-ballots
overflow_add-ballots c =
    let nodes = c.args.nodes.now in
    let i : ℕ = c.loop-node.node-index in
    let x = c.node-item.result in
    let inside : i < length nodes = omega arith in
    let is = item_is low nodes c.loop-node.nodes i x inside c.loop-node.invariant.below c.node-item.is in
    omega (
      arith,
      c.open-ballots.ensures.ballots ∙ ap first_ballots (sym c.node-item.is ∙ is),
      sum_by_more_le first_ballots nodes i x inside,
      c.loop-node.invariant.counted,
      c.requires.few,
    )

pub loop-node-preserved : goal.loop-node-preserved
loop-node-preserved c =
    let nodes = c.args.nodes.now in
    let i : ℕ = c.loop-node.node-index in
    let x = c.node-item.result in
    let inv = c.loop-node.invariant in
    let inside : i < length nodes = omega arith in
    let is = item_is low nodes c.loop-node.nodes i x inside inv.below c.node-item.is in
    record {
      below =
          ap (λ (l : List PlanRow). set c.loop-node.nodes i l) (c.open-ballots.ensures.below ∙ ap low (sym c.node-item.is))
          ∙ map_over_more low nodes c.loop-node.nodes i x inside inv.below c.node-item.is;
      counted =
          omega (
            arith,
            inv.counted,
            c.open-ballots.ensures.ballots ∙ ap first_ballots (sym c.node-item.is ∙ is),
            ap (sum_by first_ballots) (take_more nodes i x inside),
            sum_by-append first_ballots (take i nodes) (get_or nodes i x ∷ []),
            sum_by-cons first_ballots (get_or nodes i x) [],
          );
    }
