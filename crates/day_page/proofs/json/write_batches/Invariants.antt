use Rattle.std.proofs.Common.{map, take}
use Rattle.day_page.specs.DayJson.{batch_json, listed}
use Rattle.sheet_page.specs.Prints.{Prints}
use Rattle.day_page.proofs.json.write_batches.Given as goal

abbrev pub invariant-loop-i : goal.invariant-loop-i
invariant-loop-i g l = Prints g.K.Sink l.initial.pen l.pen (listed (map batch_json (take l.i l.batches)))
