use Rattle.std.proofs.Common.{◌≡◌, ◌++◌, ◌≤◌, List, length, take, drop, arith, ap, sym, subst, ◌∙◌}
use Rattle.std.proofs.lemmas.List.{take_at}
use Rattle.std.proofs.Math.Nat.{pow-le-pow_right}
use Rattle.fixed_place.specs.Rounding.{scale}
use Rattle.fixed_place.proofs.RoundingLemmas.{scale_pos}
use Rattle.frozen_plan.specs.Plan.{all_ballots}
use Rattle.vote_spread.specs.KeepingSeen.{KeepingSeen}
use Rattle.vote_spread.specs.LaneSeen.{LaneSeen, HaveRun}
use Rattle.vote_spread.specs.Lanes.{LanesSeen, HaveCounted}
use Rattle.vote_spread.proofs.LaneLemmas.{can_count, have_counted, seen_of}
use Rattle.vote_spread.proofs.lanes.Lanes.run.Goals as goal

pub run_lanes-requires-clause-can : goal.run_lanes-requires-clause-can
run_lanes-requires-clause-can g c κs within =
    let inside = c.self.inside in
    let scaled : inside.task.keeping.one ≡ scale g.row.P =
    ap (λ (l : LanesSeen). l.scale) c.self.view_is ∙ c.requires.scale in
    let small : scale g.row.P ≤ 1000000000 = pow-le-pow_right {n = 10} (omega arith) c.requires.places in
    can_count (all_ballots inside.plans.value) inside.task.branches inside.task.keeping inside.lanes.items
    (omega (arith, scaled, scale_pos g.row.P)) (omega (arith, scaled, small)) c.self.invariant.0

pub returns : goal.returns
returns g c =
    let inside = c.self.inside in
    let ballots = all_ballots inside.plans.value in
    let keeping = inside.task.keeping in
    let stems = inside.task.branches in
    let old = inside.lanes.items in
    let new = c.run_lanes.new.lanes in
    let lanes : c.as_mut_slice.result.now ≡ old = c.as_mut_slice.ensures.value in
    let many : length new ≡ length old = c.run_lanes.ensures.as_many ∙ ap length lanes in
    let run : HaveRun keeping stems 0 (length old) new =
    subst (λ q. HaveRun keeping stems 0 q new) (ap length lanes) c.run_lanes.ensures.counted in
    let all : take inside.lanes.len (new ++ drop (length new) old) ≡ new =
    take_at new (drop (length new) old) inside.lanes.len (omega (arith, inside.lanes.ok.0)) in
    subst (λ (t : List LaneSeen). HaveCounted c.args.self.now (seen_of ballots c.settle.new.self t)) (sym all)
    (subst (λ (k : KeepingSeen). HaveCounted c.args.self.now (seen_of ballots k new)) (sym c.settle.ensures)
    (subst (λ (l : LanesSeen). HaveCounted l (seen_of ballots keeping new)) c.self.view_is
    (have_counted ballots stems keeping old new c.self.invariant.0 many run)))
