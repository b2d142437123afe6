use Rattle.std.proofs.Common.{◌≡◌, ℕ}
use Rattle.call_register.specs.Marks.{marks_of}
use Rattle.ballot_tests.proofs.strikes.strikes.Given as goal

abbrev pub invariant-loop-place : goal.invariant-loop-place
invariant-loop-place l = (s : ℕ) → marks_of s l.marks.items ≡ 0
