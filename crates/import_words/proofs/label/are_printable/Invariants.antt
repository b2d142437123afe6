use Rattle.std.proofs.Common.{◌≤◌, All, take}
use Rattle.import_words.proofs.label.are_printable.Given as goal

abbrev pub invariant-loop-byte : goal.invariant-loop-byte
invariant-loop-byte l = All (λ b. 32 ≤ b) (take l.byte-index l.bytes)
