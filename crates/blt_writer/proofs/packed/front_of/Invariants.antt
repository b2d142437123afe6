use Rattle.std.proofs.Common.{◌≡◌}
use Rattle.blt_writer.specs.Packed.{front}
use Rattle.blt_writer.proofs.packed.front_of.Given as goal

abbrev pub invariant-loop-place : goal.invariant-loop-place
invariant-loop-place l = l.front ≡ front l.place l.candidates
