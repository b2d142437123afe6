use Rattle.std.proofs.Common.{take}
use Rattle.sheet_page.specs.Html.{elected_in}
use Rattle.sheet_page.specs.Prints.{Prints}
use Rattle.sheet_page.specs.Trees.{print_each}
use Rattle.sheet_page.proofs.elected.write_elected_rows.Given as goal

abbrev pub invariant-loop-row : goal.invariant-loop-row
invariant-loop-row g l =
    Prints g.K.Sink l.initial.pen l.pen
    (print_each (elected_in l.fn.values) (take l.row-index l.fn.values.rows))
