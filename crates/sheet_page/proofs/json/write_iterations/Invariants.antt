use Rattle.std.specs.List.{flat_map}
use Rattle.sheet_page.specs.Json.{iteration_at}
use Rattle.sheet_page.specs.Prints.{Prints}
use Rattle.sheet_page.specs.Values.{all_places}
use Rattle.sheet_page.proofs.json.write_iterations.Given as goal

abbrev pub invariant-loop-i : goal.invariant-loop-i
invariant-loop-i g l =
    Prints g.K.Sink l.initial.pen l.pen
    (flat_map (iteration_at g.row.P l.fn.values) (all_places l.i))
