use Rattle.fixed_place.specs.Rounding.{most}
use Rattle.meek_rule.specs.Situation.{steps_left}
use Rattle.sheet_text.proofs.SheetLemmas.{IsUnderWay}
use Rattle.sheet_text.proofs.sheet.write_sheet.Given as goal

abbrev pub invariant-rows : goal.invariant-rows
invariant-rows g l = IsUnderWay g.K.Sink.written g.K.Sink.faults l.fn.sink l.sink g.D.Spread.rule g.row.P l.fn.count l.count

abbrev pub decreases-rows : goal.decreases-rows
decreases-rows g l = steps_left (most g.row.P) l.count.situation
