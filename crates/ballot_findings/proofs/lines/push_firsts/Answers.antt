use Rattle.std.proofs.Common.{◌∙◌, ◌+◌, ◌++◌, arith}
use Rattle.ballot_findings.specs.Lines.{first_line}
use Rattle.ballot_findings.specs.Names.{name_of}
use Rattle.ballot_findings.specs.Tally.{first_of}
use Rattle.ballot_findings.proofs.Each.{each_step}
use Rattle.ballot_findings.proofs.lines.push_firsts.Goals as goal

pub loop-p-preserved : goal.loop-p-preserved
loop-p-preserved c =
    let p = c.loop-p.p in
    each_step (λ n. first_line n (first_of c.args.tally.now n) (name_of c.args.roll.now.names n)) 1 p (p + 1) _ _ _
    (omega arith) c.loop-p.invariant
    (c.in_ok-push_first.ensures
    ∙ (λ i. c.loop-p.text ++ first_line (p + 1) (c.first.ensures i) (c.name_of.ensures i)))
