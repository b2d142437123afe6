use Rattle.std.proofs.Common.{take}
use Rattle.std.specs.List.{flat_map}
use Rattle.page_tree.specs.Print.{printed}
use Rattle.day_page.specs.Freezes.{link_of}
use Rattle.sheet_page.specs.Prints.{Prints}
use Rattle.day_page.proofs.freeze_links.write_each.Given as goal

abbrev pub invariant-loop-sheet : goal.invariant-loop-sheet
invariant-loop-sheet g l =
    Prints g.K.Sink l.initial.pen l.pen
    (flat_map (λ s. printed (link_of l.calls s)) (take l.sheet-index l.sheets))
