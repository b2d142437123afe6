use Rattle.std.proofs.Common.{take}
use Rattle.import_words.specs.Labels.{AreDifferent}
use Rattle.import_words.proofs.different.are_different.Given as goal

-- those so far are different
abbrev pub invariant-loop-at : goal.invariant-loop-at
invariant-loop-at l = AreDifferent (take l.at l.labels)
