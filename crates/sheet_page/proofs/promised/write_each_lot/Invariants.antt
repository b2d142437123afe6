use Rattle.std.proofs.Common.{take}
use Rattle.sheet_page.specs.Promised.{lots_in}
use Rattle.sheet_page.specs.Prints.{Prints}
use Rattle.sheet_page.specs.Trees.{print_each}
use Rattle.sheet_page.proofs.promised.write_each_lot.Given as goal

abbrev pub invariant-loop-row : goal.invariant-loop-row
invariant-loop-row g l =
    Prints g.K.Sink l.initial.pen l.pen (print_each (lots_in l.fn.values) (take l.row-index l.fn.values.rows))
