use Rattle.std.proofs.Common.{◌∙◌, ◌++◌, ◌∷◌, [], ap, List, ℕ, Vec, Global}
use Rattle.std.proofs.lemmas.List.{take_all}
use Rattle.ballot_findings.specs.Names.{plainly}
use Rattle.ballot_findings.proofs.Plainly.{one_kept, one_left_out}
use Rattle.ballot_findings.proofs.names.plainly.Goals.{then-byte-ne32+in_ok-push, else-byte-ne32}
use Rattle.ballot_findings.proofs.names.plainly.Goals as goal

pub loop-byte-preserved : goal.loop-byte-preserved
loop-byte-preserved c =
    let name = c.args.name.now in
    let i = c.loop-byte.byte-index in
    let plain = c.loop-byte.plain.items in
    elim c.if-byte-ne32.branch [
      | then-byte-ne32+in_ok-push w ↦
          ap (λ (v : Vec ℕ Global). v.items) w.plain-is
          ∙ (w.in_ok-push.ensures.items
          ∙ (ap (λ (b : ℕ). plain ++ b ∷ []) w.to_ascii_lowercase.ensures.value
          ∙ one_kept name i c.loop-byte-test.true plain c.loop-byte.invariant w.if-byte-ne32.true))
      | else-byte-ne32 w ↦
          ap (λ (v : Vec ℕ Global). v.items) w.plain-is
          ∙ one_left_out name i c.loop-byte-test.true plain c.loop-byte.invariant w.if-byte-ne32.false
    ]

pub returns : goal.returns
returns c =
    c.loop-byte.invariant
    ∙ ap (λ (bs : List ℕ). plainly bs) (take_all c.loop-byte.byte-index c.args.name.now c.loop-byte-test.false)
