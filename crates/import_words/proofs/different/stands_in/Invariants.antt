use Rattle.std.proofs.Common.{take}
use Rattle.std.specs.List.{Contains}
use Rattle.import_words.proofs.different.stands_in.Given as goal

-- the label is none of those so far
abbrev pub invariant-loop-other : goal.invariant-loop-other
invariant-loop-other l = ¬ (Contains (take l.other-index l.labels) l.label)
