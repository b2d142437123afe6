use Rattle.std.specs.List.{flat_map}
use Rattle.sheet_page.specs.Json.{candidate_json}
use Rattle.sheet_page.specs.Prints.{Prints}
use Rattle.sheet_page.specs.Values.{all_places}
use Rattle.sheet_page.proofs.json.write_candidates.Given as goal

abbrev pub invariant-loop-p : goal.invariant-loop-p
invariant-loop-p g l =
    Prints g.K.Sink l.initial.pen l.pen
    (flat_map (candidate_json l.fn.values) (all_places l.p))
