use Rattle.std.proofs.Common.{map, take}
use Rattle.ballot_table.specs.Held.{says_held}
use Rattle.ballot_table.specs.Said.{IsSaying}
use Rattle.ballot_table.proofs.holders.say_each.Given as goal

-- the ranks so far are said
abbrev pub invariant-loop-held : goal.invariant-loop-held
invariant-loop-held l = IsSaying (map says_held (take l.held-index l.ranks)) l.said
