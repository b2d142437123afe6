use Rattle.std.proofs.Common.{arith}
use Rattle.frozen_plan.proofs.MergeLemmas.{first_merged, merged_same, merged_other, both_few}
use Rattle.frozen_plan.proofs.merge.merge.Goals as goal

pub loop-i-init : goal.loop-i-init
loop-i-init c = first_merged c.args.ranks.now c.args.lines.now

pub overflow_add-count : goal.overflow_add-count
overflow_add-count c =
    let so_far = c.loop-i.invariant in
    omega (
      arith,
      c.requires.few,
      both_few c.args.ranks.now c.args.lines.now c.loop-i.lines c.loop-i.i c.loop-i.last so_far
          (omega (arith, c.loop-i-test.true, so_far.as_many)),
    )

pub loop-i-preserved-then-are_equal : goal.loop-i-preserved-then-are_equal
loop-i-preserved-then-are_equal c =
    let so_far = c.loop-i.invariant in
    merged_same c.args.ranks.now c.args.lines.now c.loop-i.lines c.loop-i.i c.loop-i.last so_far
    (omega (arith, c.loop-i-test.true, so_far.as_many))
    (c.are_equal.ensures c.if-are_equal.true)

pub loop-i-preserved : goal.loop-i-preserved
loop-i-preserved c =
    let so_far = c.loop-i.invariant in
    merged_other c.args.ranks.now c.args.lines.now c.loop-i.lines c.loop-i.i c.loop-i.last so_far
    (omega (arith, c.loop-i-test.true, so_far.as_many))
