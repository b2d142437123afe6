use Rattle.sheet_page.specs.Promised.{lot_at}
use Rattle.sheet_page.specs.Prints.{Prints}
use Rattle.sheet_page.specs.Trees.{print_each}
use Rattle.sheet_page.specs.Values.{all_places}
use Rattle.sheet_page.proofs.promised.write_lots_in.Given as goal

abbrev pub invariant-loop-p : goal.invariant-loop-p
invariant-loop-p g l =
    Prints g.K.Sink l.initial.pen l.pen (print_each (lot_at l.fn.values l.fn.row) (all_places l.p))
