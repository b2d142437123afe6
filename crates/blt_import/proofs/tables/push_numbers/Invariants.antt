use Rattle.std.proofs.Common.{◌≡◌, ◌++◌, take}
use Rattle.blt_import.proofs.tables.push_numbers.Given as goal

abbrev pub invariant-loop-number : goal.invariant-loop-number
invariant-loop-number l = l.numbers ≡ l.fn.numbers ++ take l.number-index l.typed
