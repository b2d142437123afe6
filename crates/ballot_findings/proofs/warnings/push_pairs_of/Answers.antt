use Rattle.std.proofs.Common.{◌∙◌, ℕ, ◌+◌, Bool, List, ap, arith, sym}
use Rattle.ballot_findings.specs.Counted.{Counted, counted, with_line_if}
use Rattle.ballot_findings.specs.Doubts.{are_like, like_words}
use Rattle.ballot_findings.specs.Lines.{pair_line}
use Rattle.ballot_findings.proofs.CountedLines.{kept_more}
use Rattle.ballot_findings.proofs.warnings.push_pairs_of.Goals as goal

pub loop-p-preserved : goal.loop-p-preserved
loop-p-preserved c =
    let p = c.loop-p.p in
    let a = c.args.c in
    let test : ℕ → Bool = are_like c.args.likeness c.args.file.now.roll.names a in
    let line : ℕ → List ℕ = pair_line c.args.file.now.input (like_words c.args.likeness) a in
    c.in_ok-push_pair.ensures
    ∙ (ap (λ (ls : Counted). with_line_if (test (a + 1 + p)) ls (line (a + 1 + p))) c.loop-p.invariant
    ∙ sym (kept_more line test (counted c.args.text.now c.args.count.now) (a + 1) p (a + 1 + p) (omega arith)))
