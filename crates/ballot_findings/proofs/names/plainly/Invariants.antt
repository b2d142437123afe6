use Rattle.std.proofs.Common.{◌≡◌, take}
use Rattle.ballot_findings.specs.Names.{plainly}
use Rattle.ballot_findings.proofs.names.plainly.Given as goal

abbrev pub invariant-loop-byte : goal.invariant-loop-byte
invariant-loop-byte l = l.plain.items ≡ plainly (take l.byte-index l.name)
