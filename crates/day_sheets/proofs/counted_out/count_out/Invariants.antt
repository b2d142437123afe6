use Rattle.fixed_place.specs.Rounding.{most}
use Rattle.meek_rule.specs.Situation.{steps_left}
use Rattle.day_sheets.proofs.CountingOut.{IsCountingOut}
use Rattle.day_sheets.proofs.counted_out.count_out.Given as goal

abbrev pub invariant-rows : goal.invariant-rows
invariant-rows g l = IsCountingOut 9 l.fn.count l.count l.turns

abbrev pub decreases-rows : goal.decreases-rows
decreases-rows g l = steps_left (most 9) l.count.situation
