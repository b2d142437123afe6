use Rattle.std.proofs.Common.{take}
use Rattle.candidate_roll.specs.Name.{IsName}
use Rattle.candidate_roll.proofs.name.Name.try_new.Given as goal

abbrev pub invariant-loop-at : goal.invariant-loop-at
invariant-loop-at g l = IsName g.row.MAX (take l.at l.bytes)
