use Rattle.std.proofs.Common.{◌≡◌, ◌++◌, take}
use Rattle.ballot_findings.specs.Lines.{numbers_text}
use Rattle.ballot_findings.proofs.text.Text.push_numbers.Given as goal

abbrev pub invariant-loop-n : goal.invariant-loop-n
invariant-loop-n l = l.self ≡ l.initial.self ++ numbers_text (take l.n-index l.numbers)
