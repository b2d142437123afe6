use Rattle.std.proofs.Common.{◌≡◌, ◌++◌, take}
use Rattle.std.specs.List.{flat_map}
use Rattle.count_promise.specs.Lines.{lots_of}
use Rattle.count_promise.proofs.lines.push_lots.Given as goal

abbrev pub invariant-loop-row : goal.invariant-loop-row
invariant-loop-row l = l.text ≡ l.initial.text ++ flat_map lots_of (take l.row-index l.fn.rows)
