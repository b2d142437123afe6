use Rattle.sheet_page.specs.Html.{part_at}
use Rattle.sheet_page.specs.Prints.{Prints}
use Rattle.sheet_page.specs.Trees.{print_each}
use Rattle.sheet_page.specs.Values.{all_places}
use Rattle.sheet_page.proofs.round_parts.write_round_parts.Given as goal

abbrev pub invariant-loop-i : goal.invariant-loop-i
invariant-loop-i g l =
    Prints g.K.Sink l.initial.pen l.pen
    (print_each (part_at l.fn.names g.row.P l.fn.values l.fn.full) (all_places l.i))
