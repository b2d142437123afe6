use Rattle.std.proofs.Common.{◌≡◌, ◌++◌, take}
use Rattle.import_words.proofs.cells.append.Given as goal

abbrev pub invariant-loop-label : goal.invariant-loop-label
invariant-loop-label l = l.all ≡ l.fn.all ++ take l.label-index l.labels
