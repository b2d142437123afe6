use Rattle.sheet_page.specs.RoundTable.{cell_at}
use Rattle.sheet_page.specs.Prints.{Prints}
use Rattle.sheet_page.specs.Trees.{print_each}
use Rattle.sheet_page.specs.Values.{all_places}
use Rattle.sheet_page.proofs.table.write_cells.Given as goal

abbrev pub invariant-loop-i : goal.invariant-loop-i
invariant-loop-i g l = Prints g.K.Sink l.initial.pen l.pen (print_each (cell_at l.fn.names g.row.P l.fn.values l.fn.entry) (all_places l.i))
