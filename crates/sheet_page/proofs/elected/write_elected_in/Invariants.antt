use Rattle.sheet_page.specs.Html.{elected_item}
use Rattle.sheet_page.specs.Prints.{Prints}
use Rattle.sheet_page.specs.Trees.{print_each}
use Rattle.sheet_page.specs.Values.{all_places}
use Rattle.sheet_page.proofs.elected.write_elected_in.Given as goal

abbrev pub invariant-loop-p : goal.invariant-loop-p
invariant-loop-p g l =
    Prints g.K.Sink l.initial.pen l.pen
    (print_each (elected_item l.fn.values l.fn.row) (all_places l.p))
