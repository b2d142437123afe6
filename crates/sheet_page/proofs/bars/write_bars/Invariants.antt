use Rattle.sheet_page.specs.Picture.{bar_at}
use Rattle.sheet_page.specs.Prints.{Prints}
use Rattle.sheet_page.specs.Trees.{print_each}
use Rattle.sheet_page.specs.RoundEnds.{settled}
use Rattle.sheet_page.specs.Values.{all_places}
use Rattle.sheet_page.proofs.bars.write_bars.Given as goal

abbrev pub invariant-loop-p : goal.invariant-loop-p
invariant-loop-p g l =
    Prints g.K.Sink l.initial.pen l.pen
    (print_each (bar_at g.row.P l.fn.values l.fn.full (settled l.fn.row l.fn.behind)) (all_places l.p))
