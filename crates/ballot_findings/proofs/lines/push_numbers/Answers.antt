use Rattle.std.proofs.Common.{arith, ◌∷◌, ◌+◌}
use Rattle.std.specs.Prelude.{decimal}
use Rattle.candidate_roll.specs.Roll.{is_withdrawn}
use Rattle.ballot_findings.specs.Lines.{only_if}
use Rattle.ballot_findings.proofs.Each.{each_step}
use Rattle.ballot_findings.proofs.lines.push_numbers.Goals as goal

pub loop-p-preserved : goal.loop-p-preserved
loop-p-preserved c =
    each_step (λ n. only_if (is_withdrawn c.args.roll.now.withdrawn n) (32 ∷ decimal n)) 1 c.loop-p.p (c.loop-p.p + 1) _ _ _
    (omega arith) c.loop-p.invariant c.in_ok-push_if_withdrawn.ensures
