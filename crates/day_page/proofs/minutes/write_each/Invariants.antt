use Rattle.std.proofs.Common.{take}
use Rattle.std.specs.List.{flat_map}
use Rattle.day_page.specs.DayMinutes.{freeze_text}
use Rattle.sheet_page.specs.Prints.{Prints}
use Rattle.day_page.proofs.minutes.write_each.Given as goal

abbrev pub invariant-loop-sheet : goal.invariant-loop-sheet
invariant-loop-sheet g l =
    Prints g.K.Sink l.initial.pen l.pen (flat_map (freeze_text g.row.P l.calls) (take l.sheet-index l.sheets))
