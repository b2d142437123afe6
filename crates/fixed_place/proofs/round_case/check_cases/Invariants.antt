use Rattle.std.proofs.Common.{◌≡◌, drop}
use Rattle.std.specs.List.{position_from}
use Rattle.fixed_place.specs.Cases.{is_wrong}
use Rattle.fixed_place.proofs.round_case.check_cases.Given as goal

abbrev pub invariant-loop-i : goal.invariant-loop-i
invariant-loop-i g l =
    position_from (is_wrong g.row.P) 0 l.cases ≡ position_from (is_wrong g.row.P) l.i (drop l.i l.cases)
