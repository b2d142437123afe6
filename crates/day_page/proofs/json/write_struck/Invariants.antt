use Rattle.std.proofs.Common.{map, take}
use Rattle.std.specs.Prelude.{decimal}
use Rattle.day_page.specs.DayJson.{listed}
use Rattle.sheet_page.specs.Prints.{Prints}
use Rattle.day_page.proofs.json.write_struck.Given as goal

abbrev pub invariant-loop-i : goal.invariant-loop-i
invariant-loop-i g l = Prints g.K.Sink l.initial.pen l.pen (listed (map decimal (take l.i l.struck)))
