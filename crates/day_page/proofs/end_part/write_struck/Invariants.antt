use Rattle.std.proofs.Common.{take}
use Rattle.std.specs.List.{flat_map}
use Rattle.page_tree.specs.Print.{printed}
use Rattle.day_page.specs.EndPart.{struck_item}
use Rattle.sheet_page.specs.Prints.{Prints}
use Rattle.day_page.proofs.end_part.write_struck.Given as goal

abbrev pub invariant-loop-candidate : goal.invariant-loop-candidate
invariant-loop-candidate g l =
    Prints g.K.Sink l.initial.pen l.pen
    (flat_map (λ n. printed (struck_item n)) (take l.candidate-index l.struck))
