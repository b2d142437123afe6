use Rattle.std.proofs.Common.{◌≡◌, ℕ, [], ◌∷◌, ◌++◌, length, All, Bool, cond, not, sym, ap, ◌∙◌, subst, arith, rules}
use Rattle.std.specs.Vec.Iter.{into_iter_items}
use Rattle.lane_sheet.specs.Plans.{CanBeCounted}
use Rattle.lane_sheet.proofs.BegunSpreads.{begun_none, begun_more, next_left}
use Rattle.lane_sheet.proofs.in_lanes.write_in_lanes.Goals as goal

pub loop-lanes-init : goal.loop-lanes-init
loop-lanes-init g c =
    begun_none c.candidates-candidates.result (c.args.crew.now.rt, c.args.crew.now.gate) c.args.plans.items
    c.new-spreads.result.items c.in_ok-begun.begun.items
    (into_iter_items c.into_iter-lanes-iterator.result) c.new-spreads.ensures.items
    (search rules) c.in_ok-begun.ensures
    (subst (λ (n : ℕ). All (CanBeCounted n) c.args.plans.items) (sym c.candidates-candidates.ensures.count)
    c.requires.plans)

pub over-spread-requires : goal.over-spread-requires
over-spread-requires g c =
    let left =
    next_left c.candidates-candidates.result (c.args.crew.now.rt, c.args.crew.now.gate) c.args.plans.items
    c.loop-lanes.spreads.items _ (into_iter_items c.next.new.self) c.in-Some.lanes c.loop-lanes.invariant
    c.in-Some.ensures.steps.0 in (omega arith, (left.scaled, (left.of_all, search rules)))

pub loop-lanes-preserved : goal.loop-lanes-preserved
loop-lanes-preserved g c =
    let spreads = c.loop-lanes.spreads.items in
    let s = c.over-spread.result in
    let items : c.push.new.self.items ≡ spreads ++ s ∷ [] =
    c.push.ensures.items
    ∙ ap (λ (ok : Bool). cond ok (spreads ++ s ∷ []) spreads)
    (c.is_err.ensures.negation ∙ ap not c.if-is_err.false) in
    let left =
    next_left c.candidates-candidates.result (c.args.crew.now.rt, c.args.crew.now.gate) c.args.plans.items spreads _
    (into_iter_items c.next.new.self) c.in-Some.lanes c.loop-lanes.invariant
    c.in-Some.ensures.steps.0 in
    begun_more c.candidates-candidates.result (c.args.crew.now.rt, c.args.crew.now.gate) c.args.plans.items spreads
    c.push.new.self.items _ (into_iter_items c.next.new.self) c.in-Some.lanes s
    c.loop-lanes.invariant c.in-Some.ensures.steps.0 items c.over-spread.ensures.ballots
    (record {
      run_is = c.over-spread.ensures.run;
      candidates_are = c.over-spread.ensures.candidates;
      scaled = c.over-spread.ensures.can.scaled;
      of_all = c.over-spread.ensures.can.of_all;
      counted = c.over-spread.ensures.can.counted;
      few =
          (let few = left.few in
          let same = ap length c.over-spread.ensures.ballots in omega (arith, few, same));
    })
