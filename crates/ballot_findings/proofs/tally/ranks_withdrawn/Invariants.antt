use Rattle.std.proofs.Common.{◌≡◌, false, take}
use Rattle.std.specs.List.{list_any}
use Rattle.candidate_roll.specs.Roll.{is_withdrawn}
use Rattle.ballot_findings.proofs.tally.ranks_withdrawn.Given as goal

abbrev pub invariant-loop-c : goal.invariant-loop-c
invariant-loop-c l = list_any (is_withdrawn l.fn.roll.withdrawn) (take l.c-index l.fn.ranks) ≡ false
