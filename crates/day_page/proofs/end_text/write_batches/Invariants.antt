use Rattle.std.proofs.Common.{take}
use Rattle.std.specs.List.{flat_map}
use Rattle.day_page.specs.DayMinutes.{batch_line}
use Rattle.sheet_page.specs.Prints.{Prints}
use Rattle.day_page.proofs.end_text.write_batches.Given as goal

abbrev pub invariant-loop-batch : goal.invariant-loop-batch
invariant-loop-batch g l =
    Prints g.K.Sink l.initial.pen l.pen (flat_map (batch_line) (take l.batch-index l.batches))
