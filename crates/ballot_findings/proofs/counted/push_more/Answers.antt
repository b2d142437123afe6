use Rattle.std.proofs.Common.{◌≡◌, ◌∙◌, ◌-◌, ◌++◌, List, ℕ, Bool, ap, append-nil, arith, subst, sym}
use Rattle.std.specs.Prelude.{OnOk, codes}
use Rattle.std.proofs.lemmas.Bool.{le-ltb, lt-ltb}
use Rattle.ballot_findings.specs.Lines.{count_line, only_if}
use Rattle.ballot_findings.proofs.counted.push_more.Goals as goal

pub returns-then-count-le100 : goal.returns-then-count-le100
returns-then-count-le100 c =
    let line : List ℕ = count_line (codes "look more lines of this kind ") (c.args.count - 100) in
    sym (append-nil c.args.text.now)
    ∙ ap (λ (b : Bool). c.args.text.now ++ only_if b line) (sym (le-ltb 100 c.args.count c.if-count-le100.true))

pub returns : goal.returns
returns c =
    let line : List ℕ = count_line (codes "look more lines of this kind ") (c.args.count - 100) in
    subst (λ (l : List ℕ). OnOk c.push_count_line.result (c.push_count_line.new.self ≡ c.args.text.now ++ l))
    (sym (ap (λ (b : Bool). only_if b line) (lt-ltb 100 c.args.count (omega (arith, c.if-count-le100.false)))))
    c.push_count_line.ensures
