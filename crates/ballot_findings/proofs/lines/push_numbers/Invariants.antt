use Rattle.std.proofs.Common.{◌≡◌, ◌++◌, ◌∷◌}
use Rattle.std.specs.Prelude.{decimal}
use Rattle.candidate_roll.specs.Roll.{is_withdrawn}
use Rattle.ballot_findings.specs.Lines.{for_each, only_if}
use Rattle.ballot_findings.proofs.lines.push_numbers.Given as goal

abbrev pub invariant-loop-p : goal.invariant-loop-p
invariant-loop-p l =
    l.text ≡ l.initial.text ++ for_each l.p (λ c. only_if (is_withdrawn l.fn.roll.withdrawn c) (32 ∷ decimal c))
