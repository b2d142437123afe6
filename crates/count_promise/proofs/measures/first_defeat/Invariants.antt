use Rattle.std.proofs.Common.{◌≡◌, take}
use Rattle.std.specs.Prelude.{find, None}
use Rattle.count_promise.specs.Left.{is_defeat_of}
use Rattle.count_promise.proofs.measures.first_defeat.Given as goal

abbrev pub invariant-loop-row : goal.invariant-loop-row
invariant-loop-row g l = find (is_defeat_of l.least) (take l.row-index l.fn.rows) ≡ None
