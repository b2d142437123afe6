use Rattle.std.proofs.Common.{◌∙◌}
use Rattle.ballot_tests.proofs.ManyMarks.{one_strike_more}
use Rattle.ballot_tests.proofs.strikes.strikes.Goals as goal

pub loop-place-preserved : goal.loop-place-preserved
loop-place-preserved c s =
    one_strike_more _ _ c.loop-place.marks.items c.push.new.self.items c.in_ok-push.ensures.ok s
    ∙ c.loop-place.invariant s
