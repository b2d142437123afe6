use Rattle.std.proofs.Common.{take}
use Rattle.std.specs.List.{flat_map}
use Rattle.page_tree.specs.Print.{printed}
use Rattle.day_page.specs.Freezes.{freeze_part}
use Rattle.sheet_page.specs.Prints.{Prints}
use Rattle.day_page.proofs.freezes.write_each.Given as goal

abbrev pub invariant-loop-sheet : goal.invariant-loop-sheet
invariant-loop-sheet g l =
    Prints g.K.Sink l.initial.pen l.pen
    (flat_map (λ s. printed (freeze_part g.row.P l.calls s)) (take l.sheet-index l.sheets))
