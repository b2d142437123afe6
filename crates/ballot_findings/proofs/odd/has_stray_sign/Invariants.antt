use Rattle.std.proofs.Common.{◌≡◌, drop, length}
use Rattle.std.specs.Str.{chars}
use Rattle.ballot_findings.proofs.Windows.{strayed}
use Rattle.ballot_findings.proofs.odd.has_stray_sign.Given as goal

abbrev pub invariant-loop-sign : goal.invariant-loop-sign
invariant-loop-sign l =
    strayed l.first l.second l.third (drop (length l.yielded) (chars l.text)) ≡ strayed 32 32 32 (chars l.text)
