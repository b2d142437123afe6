use Rattle.sheet_page.specs.Promised.{other_at}
use Rattle.sheet_page.specs.Prints.{Prints}
use Rattle.sheet_page.specs.Trees.{print_each}
use Rattle.sheet_page.specs.Values.{all_places}
use Rattle.sheet_page.proofs.promised.write_others.Given as goal

abbrev pub invariant-loop-q : goal.invariant-loop-q
invariant-loop-q g l =
    Prints g.K.Sink l.initial.pen l.pen
    (print_each (other_at l.fn.values l.fn.row l.group l.p) (all_places l.q))
