use Rattle.std.proofs.Common.{◌≡◌, ◌∙◌, ℕ, ◌+◌, Bool, cond, ap, arith, sym}
use Rattle.std.specs.Prelude.{not}
use Rattle.candidate_roll.specs.Roll.{is_withdrawn}
use Rattle.ballot_findings.proofs.Each.{count_more}
use Rattle.ballot_findings.proofs.lines.running.Goals.{then-not-is_withdrawn, else-not-is_withdrawn}
use Rattle.ballot_findings.proofs.lines.running.Goals as goal

pub loop-p-preserved : goal.loop-p-preserved
loop-p-preserved c =
    let withdrawn : ℕ → Bool = is_withdrawn c.args.roll.now.withdrawn in
    let p = c.loop-p.p in
    let more = count_more (λ n. not (withdrawn n)) 1 p (p + 1) (omega arith) in
    let counted : Bool → ℕ = λ b. cond (not b) 1 0 in
    elim c.if-not-is_withdrawn.branch [
      | then-not-is_withdrawn w ↦
          let one : counted (withdrawn (p + 1)) ≡ 1 = ap counted (sym c.is_withdrawn.ensures ∙ w.if-not-is_withdrawn.true) in
          record { counted = omega (arith, more, one); few = omega arith }
      | else-not-is_withdrawn w ↦
          let none : counted (withdrawn (p + 1)) ≡ 0 =
          ap counted (sym c.is_withdrawn.ensures ∙ w.if-not-is_withdrawn.false) in
          record { counted = omega (arith, more, none); few = omega arith }
    ]
