use Rattle.std.proofs.Common.{take}
use Rattle.std.specs.List.{flat_map}
use Rattle.page_tree.specs.Print.{printed}
use Rattle.day_page.specs.EndPart.{batch_item}
use Rattle.sheet_page.specs.Prints.{Prints}
use Rattle.day_page.proofs.end_part.write_batches.Given as goal

abbrev pub invariant-loop-batch : goal.invariant-loop-batch
invariant-loop-batch g l =
    Prints g.K.Sink l.initial.pen l.pen
    (flat_map (λ b. printed (batch_item b)) (take l.batch-index l.batches))
