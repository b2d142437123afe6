use Rattle.std.proofs.Common.{◌≡◌, take}
use Rattle.candidate_roll.specs.Roll.{marks_with}
use Rattle.candidate_roll.proofs.roll.mark_listed.Given as goal

abbrev pub invariant-loop-c : goal.invariant-loop-c
invariant-loop-c l = l.marks ≡ marks_with l.fn.marks (take l.c-index l.listed)
