use Rattle.std.proofs.Common.{◌≢◌, ◌↔◌, All, take}
use Rattle.std.specs.Bool.{IsTrue}
use Rattle.ballot_table.proofs.plain_row.are_held.Given as goal

-- somebody has each of the ranks so far
abbrev pub invariant-loop-c : goal.invariant-loop-c
invariant-loop-c l = IsTrue l.are_held ↔ All (λ c. c ≢ 0) (take l.c-index l.ranks)
