use Rattle.std.proofs.Common.{◌≡◌, ◌≤◌, ℕ, ◌+◌, ◌-◌, ◌*◌, List, [], length, drop, get_or, arith, ap, sym, subst, ◌∙◌}
use Rattle.std.specs.List.{flat_map}
use Rattle.std.proofs.lemmas.List.{length-append, length-map}
use Rattle.std.proofs.lemmas.Result.{on_ok_weaker}
use Rattle.frozen_plan.specs.declared.plan_row.PlanRow.{PlanRow}
use Rattle.vote_spread.specs.Stem.{Stem}
use Rattle.vote_spread.specs.Packed.{AreRows}
use Rattle.vote_spread.specs.Merged.{front, AreParts, HasMerged}
use Rattle.vote_spread.proofs.MergeLemmas.{merging-begin, merging-end}
use Rattle.vote_spread.proofs.MergeSteps.{size, no_row, taken_out, merged_out, room_enough, merged_alone, one_branch}
use Rattle.vote_spread.proofs.MergeSteps.{IsOpenBranch, open_branch, branch_inside, branch_closed}
use Rattle.vote_spread.proofs.OpenedLemmas.{may_open}
use Rattle.vote_spread.proofs.merge.+merge.Goals as goal

-- ---- siblings of several plans

pub merge-loop-candidate-init : goal.merge-loop-candidate-init
merge-loop-candidate-init t c = record {
  fewer = omega arith;
  as_many = omega arith;
  as_much_room = omega arith;
  merging = merging-begin c.args.depth c.args.parts.now c.args.branches.now c.requires.parts;
}

pub merge-take_nodes-many-requires : goal.merge-take_nodes-many-requires
merge-take_nodes-many-requires t c =
    let inv = c.loop-candidate.invariant in
    let rest = length c.loop-candidate.parts in
    record {
      rows = (c.args.depth, inv.merging.are.each);
      room =
          (room_enough c.args.depth (length c.args.parts.now) rest rest (length c.loop-candidate.room)
          c.requires.depth.1 inv.as_many (omega arith) (omega (arith, inv.as_much_room, c.requires.room))).0;
    }

pub merge-merge_nodes-requires : goal.merge-merge_nodes-requires
merge-merge_nodes-requires t c =
    let d = c.args.depth in
    let rest = c.loop-candidate.parts in
    let inv = c.loop-candidate.invariant in
    let nodes : c.split_at_mut-nodes.result.0.now ≡ flat_map (front c.in-Some.candidate) rest =
    c.split_at_mut-nodes.ensures.front ∙ c.take_nodes-many.ensures.nodes in
    let out = taken_out c.in-Some.candidate inv.merging.are nodes c.take_nodes-many.ensures.behind in
    let long = ap (λ (l : List (List PlanRow)). length l) nodes in
    let enough =
    room_enough d (length c.args.parts.now) (length rest) (length c.split_at_mut-nodes.result.0.now)
    (length c.take_nodes-many.new.room) c.requires.depth.1 inv.as_many out.few
    (omega (arith, inv.as_much_room, c.take_nodes-many.ensures.as_much_room, c.requires.room)) in (
      omega (arith, out.as_large, inv.fewer, c.decreases),
      (
        c.requires.depth,
        (
          out.are,
          (
            omega (arith, long, c.in-Some.ensures.some),
            (
              out.alone,
              omega (
                arith,
                enough.0,
                enough.1,
                c.split_at_mut-nodes.ensures.back_len,
                c.split_at_mut-nodes.ensures.front_len,
              ),
            ),
          ),
        ),
      ),
    )

pub merge-loop-candidate-preserved : goal.merge-loop-candidate-preserved
merge-loop-candidate-preserved t c =
    let inv = c.loop-candidate.invariant in
    let nodes : c.split_at_mut-nodes.result.0.now ≡ flat_map (front c.in-Some.candidate) c.loop-candidate.parts =
    c.split_at_mut-nodes.ensures.front ∙ c.take_nodes-many.ensures.nodes in
    let out = taken_out c.in-Some.candidate inv.merging.are nodes c.take_nodes-many.ensures.behind in
    record {
      fewer = omega (arith, out.as_large, inv.fewer);
      as_many = out.as_many ∙ inv.as_many;
      as_much_room =
          omega (
            arith,
            inv.as_much_room,
            c.take_nodes-many.ensures.as_much_room,
            c.split_at_mut-nodes.ensures.back_len,
            c.split_at_mut-nodes.ensures.front_len,
            c.in_ok-merge_nodes.ensures.as_many,
            c.in_ok-merge_nodes.ensures.as_much_room,
            length-append c.merge_nodes.new.nodes c.merge_nodes.new.room,
          );
      merging = merged_out out inv.merging c.in_ok-merge_nodes.ensures.merged;
    }

pub merge-loop-candidate-smaller : goal.merge-loop-candidate-smaller
merge-loop-candidate-smaller t c =
    let nodes : c.split_at_mut-nodes.result.0.now ≡ flat_map (front c.in-Some.candidate) c.loop-candidate.parts =
    c.split_at_mut-nodes.ensures.front ∙ c.take_nodes-many.ensures.nodes in
    let out =
    taken_out c.in-Some.candidate c.loop-candidate.invariant.merging.are nodes
    c.take_nodes-many.ensures.behind in
    let long = ap (λ (l : List (List PlanRow)). length l) nodes in
    omega (arith, out.as_large, out.some (omega (arith, long, c.in-Some.ensures.some)))

pub merge-returns-clause-merged : goal.merge-returns-clause-merged
merge-returns-clause-merged t c =
    merging-end c.args.depth c.args.parts.now c.loop-candidate.parts c.args.branches.now
    c.loop-candidate.branches c.loop-candidate.invariant.merging c.in_default.ensures.none

pub merge-returns-clause-as_many : goal.merge-returns-clause-as_many
merge-returns-clause-as_many t c = c.loop-candidate.invariant.as_many

pub merge-returns-clause-as_much_room : goal.merge-returns-clause-as_much_room
merge-returns-clause-as_much_room t c = c.loop-candidate.invariant.as_much_room

-- ---- a node alone

pub merge_nodes-pack_node-requires : goal.merge_nodes-pack_node-requires
merge_nodes-pack_node-requires t c =
    let first = c.index-nodes-0.result in
    let is = sym c.rows.ensures in
    let own = c.requires.alone 0 first c.requires.some in
    record {
      depth = c.requires.depth;
      rows = subst (AreRows 250 c.args.depth) is (c.requires.nodes.each 0 first c.requires.some);
      some = subst (λ (l : List PlanRow). 1 ≤ length l) is own.some;
      one = λ d. subst (λ (l : List PlanRow). (get_or l 0 d).skip ≡ length l) is (own.whole d);
    }

pub merge_nodes-returns-then-nodes-eq1-clause-merged : goal.merge_nodes-returns-then-nodes-eq1-clause-merged
merge_nodes-returns-then-nodes-eq1-clause-merged t c =
    on_ok_weaker c.pack_node.result
    (λ has. merged_alone c.index-nodes-0.result c.if-nodes-eq1.true c.rows.ensures has) c.pack_node.ensures

-- ---- several nodes

pub merge_nodes-go_on_alike-alike-requires : goal.merge_nodes-go_on_alike-alike-requires
merge_nodes-go_on_alike-alike-requires t c = record {
  some = c.requires.some;
  rows = λ k d lt. (c.requires.alone k d lt).some;
}

pub merge_nodes-open_all-ballots-requires : goal.merge_nodes-open_all-ballots-requires
merge_nodes-open_all-ballots-requires t c =
    let may =
    may_open c.args.depth c.args.candidate c.args.nodes.now no_row c.requires.some c.requires.nodes
    c.requires.alone in
    record { some = λ k d lt. (c.requires.alone k d lt).some; few = may.few }

pub merge_nodes-push-requires : goal.merge_nodes-push-requires
merge_nodes-push-requires t c =
    let may =
    may_open c.args.depth c.args.candidate c.args.nodes.now no_row c.requires.some c.requires.nodes
    c.requires.alone in
    let branch =
    one_branch c.index-nodes-0-then-alike.result c.requires.depth.0 c.requires.some c.requires.nodes
    c.requires.alone (c.go_on_alike-alike.ensures c.if-alike.true) c.open_all-ballots.ensures.ballots
    c.open_all-ballots.ensures.below c.rows-then-alike.ensures in
    record {
      depth = omega (arith, may.shallow);
      candidate = may.known;
      short = branch.short;
      candidates = branch.known;
    }

pub merge_nodes-returns-then-alike-clause-merged : goal.merge_nodes-returns-then-alike-clause-merged
merge_nodes-returns-then-alike-clause-merged t c =
    let branch =
    one_branch c.index-nodes-0-then-alike.result c.requires.depth.0 c.requires.some c.requires.nodes
    c.requires.alone (c.go_on_alike-alike.ensures c.if-alike.true) c.open_all-ballots.ensures.ballots
    c.open_all-ballots.ensures.below c.rows-then-alike.ensures in
    subst (HasMerged c.args.depth c.args.nodes.now c.args.branches.now) (sym c.in_ok-push.ensures)
    (branch.merged c.args.branches.now)

pub merge_nodes-returns-then-alike-clause-as_many : goal.merge_nodes-returns-then-alike-clause-as_many
merge_nodes-returns-then-alike-clause-as_many t c =
    ap (λ (l : List (List PlanRow)). length l) c.open_all-ballots.ensures.below
    ∙ length-map c.args.nodes.now (λ (rows : List PlanRow). drop 1 rows)

pub merge_nodes-push-requires-2-clause-depth : goal.merge_nodes-push-requires-2-clause-depth
merge_nodes-push-requires-2-clause-depth t c =
    (may_open c.args.depth c.args.candidate c.args.nodes.now no_row c.requires.some c.requires.nodes
    c.requires.alone).shallow

pub merge_nodes-push-requires-2-clause-candidate : goal.merge_nodes-push-requires-2-clause-candidate
merge_nodes-push-requires-2-clause-candidate t c =
    (may_open c.args.depth c.args.candidate c.args.nodes.now no_row c.requires.some c.requires.nodes
    c.requires.alone).known

pub merge_nodes-merge-requires : goal.merge_nodes-merge-requires
merge_nodes-merge-requires t c =
    let nodes = c.args.nodes.now in
    let d = c.args.depth in
    let may = may_open d c.args.candidate nodes no_row c.requires.some c.requires.nodes c.requires.alone in
    let low = c.open_all-ballots.ensures.below in
    let long : length c.open_all-ballots.new.nodes ≡ length nodes =
    ap (λ (l : List (List PlanRow)). length l) low
    ∙ length-map nodes (λ (rows : List PlanRow). drop 1 rows) in
    let depths : 252 - (d + 1) ≡ 251 - d = omega arith in (
      omega (arith, ap size low, may.shorter, c.decreases),
      (
        omega (arith, may.shallow),
        (
          subst (AreParts (d + 1)) (sym low) may.below,
          omega (
            arith,
            ap (λ (m : ℕ). (252 - (d + 1)) * m) long,
            ap (λ (m : ℕ). m * length nodes) depths,
            c.requires.room,
          ),
        ),
      ),
    )

pub merge_nodes-close-requires : goal.merge_nodes-close-requires
merge_nodes-close-requires t c =
    let branch :
    IsOpenBranch c.args.depth c.args.candidate c.open_all-ballots.result c.args.nodes.now c.len-at.result
    c.args.branches.now c.merge.new.branches =
    open_branch c.len-at.ensures.value c.in_ok-push-2.ensures c.open_all-ballots.ensures.below
    c.in_ok-merge.ensures.merged in
    branch_inside branch

pub merge_nodes-returns-clause-merged : goal.merge_nodes-returns-clause-merged
merge_nodes-returns-clause-merged t c =
    let d = c.args.depth in
    let k = c.args.candidate in
    let total = c.open_all-ballots.result in
    let first : Stem = record { depth = d; candidate = k; ballots = total; skip = 1; tail = [] } in
    let branch : IsOpenBranch d k total c.args.nodes.now c.len-at.result c.args.branches.now c.merge.new.branches =
    open_branch c.len-at.ensures.value c.in_ok-push-2.ensures c.open_all-ballots.ensures.below
    c.in_ok-merge.ensures.merged in
    subst (HasMerged d c.args.nodes.now c.args.branches.now) (sym (c.close.ensures first))
    (branch_closed branch first c.requires.depth.0 c.requires.some c.requires.nodes c.requires.alone
    c.open_all-ballots.ensures.ballots)

pub merge_nodes-returns-clause-as_many : goal.merge_nodes-returns-clause-as_many
merge_nodes-returns-clause-as_many t c =
    c.in_ok-merge.ensures.as_many
    ∙ (ap (λ (l : List (List PlanRow)). length l) c.open_all-ballots.ensures.below
    ∙ length-map c.args.nodes.now (λ (rows : List PlanRow). drop 1 rows))

pub merge_nodes-returns-clause-as_much_room : goal.merge_nodes-returns-clause-as_much_room
merge_nodes-returns-clause-as_much_room t c = c.in_ok-merge.ensures.as_much_room
