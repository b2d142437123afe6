use Rattle.std.proofs.Common.{◌≡◌, ℕ, ◌+◌, ◌<◌, List, [], ◌∷◌, ◌++◌, length, set, take, ap, sym, ◌∙◌, arith}
use Rattle.std.specs.List.{flat_map}
use Rattle.std.proofs.lemmas.Grind.{flat_map-append}
use Rattle.std.proofs.lemmas.List.{append-nil, take_more}
use Rattle.std.proofs.lemmas.List.Edits.{map_over_more}
use Rattle.frozen_plan.specs.declared.plan_row.PlanRow.{PlanRow}
use Rattle.vote_spread.specs.Merged.{front, behind}
use Rattle.vote_spread.proofs.PartLemmas.{item_is}
use Rattle.vote_spread.proofs.merge.take_nodes.Goals as goal

pub loop-part-preserved : goal.loop-part-preserved
loop-part-preserved c =
    let k = c.args.candidate in
    let parts = c.args.parts.now in
    let i : ℕ = c.loop-part.part-index in
    let x = c.part-item.result in
    let inv = c.loop-part.invariant in
    let inside : i < length parts = omega arith in
    let is = item_is (behind k) parts c.loop-part.parts i x inside inv.taken c.part-item.is in
    let more : take (i + 1) parts ≡ take i parts ++ x ∷ [] =
    take_more parts i x inside ∙ ap (λ (r : List PlanRow). take i parts ++ r ∷ []) (sym is) in
    record {
      taken =
          ap (λ (l : List PlanRow). set c.loop-part.parts i l)
          (c.take_node-many.ensures.behind ∙ ap (behind k) (sym c.part-item.is))
          ∙ map_over_more (behind k) parts c.loop-part.parts i x inside inv.taken c.part-item.is;
      nodes =
          c.take_node-many.ensures.node
          ∙ (ap (λ (r : List PlanRow). take c.loop-part.many c.loop-part.room ++ front k r) (sym c.part-item.is)
          ∙ (ap (λ (l : List (List PlanRow)). l ++ front k x) inv.nodes
          ∙ (ap (λ (l : List (List PlanRow)). flat_map (front k) (take i parts) ++ l) (sym (append-nil (front k x)))
          ∙ (sym (flat_map-append (front k) (take i parts) (x ∷ [])) ∙ ap (flat_map (front k)) (sym more)))));
      few = omega (arith, inv.few, c.take_node-many.ensures.next);
      as_much_room = omega (arith, inv.as_much_room, c.take_node-many.ensures.as_much_room);
    }
