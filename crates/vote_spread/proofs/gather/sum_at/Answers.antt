use Rattle.std.proofs.Common.{◌≡◌, ℕ, ◌+◌, ◌<◌, ◌^◌, List, get_or, arith, ap, ◌∙◌, sum_by, take}
use Rattle.std.proofs.lemmas.List.Sums.{sum_by_more_le}
use Rattle.vote_spread.specs.LaneSeen.{LaneSeen}
use Rattle.vote_spread.proofs.gather.sum_at.Goals as goal

pub overflow_add-sum : goal.overflow_add-sum
overflow_add-sum c =
    let f : LaneSeen → ℕ = λ lane. get_or lane.tally c.args.p 0 in
    let lanes = c.args.lanes.now in
    let own = c.tally.result.now in
    let is : own ≡ (get_or lanes c.loop-lane.lane-index c.lane-item.result).tally =
    c.tally.ensures ∙ ap (λ (lane : LaneSeen). lane.tally) c.lane-item.is in
    let le = sum_by_more_le f lanes c.loop-lane.lane-index c.lane-item.result c.loop-lane-test.true in
    let same : get_or own c.args.p 0 ≡ f (get_or lanes c.loop-lane.lane-index c.lane-item.result) =
    ap (λ (tally : List ℕ). get_or tally c.args.p 0) is in
    let so_far : c.loop-lane.sum ≡ sum_by f (take c.loop-lane.lane-index lanes) = c.loop-lane.invariant in
    let room : sum_by f lanes < 2 ^ 64 = c.requires.room in
    let fits : c.loop-lane.sum + get_or own c.args.p 0 < 2 ^ 64 = omega arith in
    omega arith
