use Rattle.std.proofs.Common.{◌≡◌, ◌++◌, take}
use Rattle.blt_import.proofs.tables.push_texts.Given as goal

abbrev pub invariant-loop-label : goal.invariant-loop-label
invariant-loop-label l = l.texts ≡ l.fn.texts ++ take l.label-index l.labels
