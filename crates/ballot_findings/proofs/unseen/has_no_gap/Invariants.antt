use Rattle.std.proofs.Common.{◌≡◌, false, take}
use Rattle.std.specs.List.{list_any}
use Rattle.ballot_findings.specs.Unseen.{is_no_gap}
use Rattle.ballot_findings.proofs.unseen.has_no_gap.Given as goal

abbrev pub invariant-loop-byte : goal.invariant-loop-byte
invariant-loop-byte l = list_any is_no_gap (take l.byte-index l.bytes) ≡ false
