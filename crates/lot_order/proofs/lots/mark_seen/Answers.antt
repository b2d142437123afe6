use Rattle.std.proofs.Common.{◌≡◌, ◌≤◌, ◌<◌, ◌+◌, ◌-◌, length, get_or, take, Contains, arith, subst, sym}
use Rattle.std.proofs.lemmas.List.{take_more}
use Rattle.lot_order.proofs.OrderLemmas.{AreLots-more, Sees-more}
use Rattle.lot_order.proofs.lots.mark_seen.Goals as goal

-- the order grows by a candidate without a mark, and the mark is set
pub loop-i-preserved : goal.loop-i-preserved
loop-i-preserved c =
    let order = c.args.order.now in
    let here = get_or order c.loop-i.i 0 in
    let before = take c.loop-i.i order in
    let some : 1 ≤ here = omega arith in
    let few : here ≤ length c.loop-i.seen = omega arith in
    let number : here - 1 + 1 ≡ here = omega arith in
    let inside : here - 1 < length c.loop-i.seen = omega arith in
    let new : ¬ (Contains before here) =
    λ found. c.loop-i.invariant.marks.unmarked (here - 1) inside c.if-seen-c.false
    (subst (Contains before) (sym number) found) in
    record {
      sound = AreLots-more _ _ _ c.loop-i.invariant.sound c.loop-i-test.true some c.if-c-candidates.false new;
      marks =
          rw (take_more order c.loop-i.i 0 c.loop-i-test.true)
          (Sees-more _ before here c.loop-i.invariant.marks some few c.if-seen-c.false);
    }
