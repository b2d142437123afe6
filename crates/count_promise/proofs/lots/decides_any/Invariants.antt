use Rattle.std.proofs.Common.{◌≡◌, false, take}
use Rattle.std.specs.List.{list_any}
use Rattle.count_promise.specs.Lots.{is_by_lot}
use Rattle.count_promise.proofs.lots.decides_any.Given as goal

abbrev pub invariant-loop-row : goal.invariant-loop-row
invariant-loop-row g l = list_any is_by_lot (take l.row-index l.fn.rows) ≡ false
