use Rattle.std.specs.List.{flat_map}
use Rattle.sheet_page.specs.Json.{standing_json}
use Rattle.sheet_page.specs.Prints.{Prints}
use Rattle.sheet_page.specs.Values.{all_places}
use Rattle.sheet_page.proofs.json.write_standings.Given as goal

abbrev pub invariant-loop-p : goal.invariant-loop-p
invariant-loop-p g l =
    Prints g.K.Sink l.initial.pen l.pen
    (flat_map (standing_json g.row.P l.fn.row) (all_places l.p))
