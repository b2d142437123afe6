use Rattle.std.proofs.Common.{All, take}
use Rattle.candidate_roll.specs.declared.limits.TheConstants.{MOST_NAME_BYTES}
use Rattle.candidate_roll.specs.Name.{IsName}
use Rattle.blt_import.proofs.writing.are_named.Given as goal

-- the names so far can be printed
abbrev pub invariant-loop-name : goal.invariant-loop-name
invariant-loop-name l = All (IsName MOST_NAME_BYTES) (take l.name-index l.names)
