use Rattle.std.proofs.Common.{take}
use Rattle.std.specs.List.{flat_map}
use Rattle.day_page.specs.DayMinutes.{struck_line}
use Rattle.sheet_page.specs.Prints.{Prints}
use Rattle.day_page.proofs.end_text.write_struck.Given as goal

abbrev pub invariant-loop-candidate : goal.invariant-loop-candidate
invariant-loop-candidate g l =
    Prints g.K.Sink l.initial.pen l.pen (flat_map (struck_line) (take l.candidate-index l.struck))
