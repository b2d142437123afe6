use Rattle.std.proofs.Common.{◌≤◌, get_or, arith, sum_by}
use Rattle.fixed_place.specs.Rounding.{most}
use Rattle.meek_rule.proofs.RuleLemmas.{most_bound}
use Rattle.vote_spread.specs.LaneSeen.{LaneSeen}
use Rattle.vote_spread.proofs.gather.gather.Goals as goal

pub sum_at-requires-clause-room : goal.sum_at-requires-clause-room
sum_at-requires-clause-room g c =
    let same = c.loop-p.invariant.same_length in
    let below = c.loop-p-test.true in
    let end = c.len-p-end.ensures.value in
    let room : sum_by (λ (lane : LaneSeen). get_or lane.tally c.loop-p.p 0) c.args.lanes.now ≤ most g.row.P =
    c.requires.room c.loop-p.p (omega arith) in
    let bound = most_bound g.row.P c.len-p-end.ensures.places.1 in
    omega arith

pub from_units-requires : goal.from_units-requires
from_units-requires g c =
    let same = c.loop-p.invariant.same_length in
    let below = c.loop-p-test.true in
    let end = c.len-p-end.ensures.value in
    let room : sum_by (λ (lane : LaneSeen). get_or lane.tally c.loop-p.p 0) c.args.lanes.now ≤ most g.row.P =
    c.requires.room c.loop-p.p (omega arith) in
    let sum = c.sum_at.ensures in
    (omega arith, (c.len-p-end.ensures.places, omega arith))
