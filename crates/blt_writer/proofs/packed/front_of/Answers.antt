use Rattle.std.proofs.Common.{arith}
use Rattle.blt_writer.proofs.FrontLemmas.{front_fits}
use Rattle.blt_writer.proofs.packed.front_of.Goals as goal

pub overflow_mul-front : goal.overflow_mul-front
overflow_mul-front c =
    let fits = front_fits c.loop-place.place c.args.candidates.now c.requires c.loop-place-test.true in
    omega (arith, fits, c.loop-place.invariant)

pub overflow_add-front : goal.overflow_add-front
overflow_add-front c =
    let fits = front_fits c.loop-place.place c.args.candidates.now c.requires c.loop-place-test.true in
    omega (arith, fits, c.loop-place.invariant, c.candidate_at.ensures.small)
