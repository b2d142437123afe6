use Rattle.std.proofs.Common.{◌≡◌, take}
use Rattle.file_edge.specs.Words.{has_value}
use Rattle.file_edge.proofs.given.has_value.Given as goal

abbrev pub invariant-loop-byte : goal.invariant-loop-byte
invariant-loop-byte l = l.found ≡ has_value (take l.byte-index l.word)
