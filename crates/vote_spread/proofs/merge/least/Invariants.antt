use Rattle.std.proofs.Common.{take}
use Rattle.vote_spread.proofs.FirstLemmas.{IsFirst}
use Rattle.vote_spread.proofs.merge.least.Given as goal

abbrev pub invariant-loop-part : goal.invariant-loop-part
invariant-loop-part l = IsFirst l.least (take l.part-index l.parts)
