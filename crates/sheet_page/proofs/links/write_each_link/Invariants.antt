use Rattle.sheet_page.specs.Links.{link_at}
use Rattle.sheet_page.specs.Prints.{Prints}
use Rattle.sheet_page.specs.Trees.{print_each}
use Rattle.sheet_page.specs.Values.{all_places}
use Rattle.sheet_page.proofs.links.write_each_link.Given as goal

abbrev pub invariant-loop-i : goal.invariant-loop-i
invariant-loop-i g l =
    Prints g.K.Sink l.initial.pen l.pen
    (print_each (link_at l.fn.names l.fn.values) (all_places l.i))
