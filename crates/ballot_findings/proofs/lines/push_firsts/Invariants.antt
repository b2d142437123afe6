use Rattle.std.proofs.Common.{◌≡◌, ◌++◌}
use Rattle.ballot_findings.specs.Lines.{first_line, for_each}
use Rattle.ballot_findings.specs.Names.{name_of}
use Rattle.ballot_findings.specs.Tally.{first_of}
use Rattle.ballot_findings.proofs.lines.push_firsts.Given as goal

abbrev pub invariant-loop-p : goal.invariant-loop-p
invariant-loop-p l =
    l.text ≡ l.initial.text ++ for_each l.p (λ c. first_line c (first_of l.fn.tally c) (name_of l.fn.roll.names c))
