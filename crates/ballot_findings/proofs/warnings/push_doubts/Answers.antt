use Rattle.std.proofs.Common.{◌≡◌, ◌∙◌, ℕ, ◌+◌, ◌++◌, Bool, List, ap, arith, length, subst, sym}
use Rattle.std.specs.Prelude.{OnOk}
use Rattle.std.specs.List.{filter, range_with_len}
use Rattle.candidate_roll.specs.Roll.{RollList}
use Rattle.ballot_findings.specs.Counted.{Counted, counted, with_line_if}
use Rattle.ballot_findings.specs.Doubts.{doubt_words, is_doubtful}
use Rattle.ballot_findings.specs.Lines.{candidate_line, told}
use Rattle.ballot_findings.proofs.CountedLines.{all_told, kept_more}
use Rattle.ballot_findings.proofs.warnings.push_doubts.Goals as goal

pub loop-p-preserved : goal.loop-p-preserved
loop-p-preserved c =
    let p = c.loop-p.p in
    let test : ℕ → Bool = is_doubtful c.args.doubt c.args.file.now.roll c.args.tally.now in
    let line : ℕ → List ℕ = candidate_line c.args.file.now.input (doubt_words c.args.doubt) in
    c.in_ok-push_doubt.ensures
    ∙ (ap (λ (ls : Counted). with_line_if (test (p + 1)) ls (line (p + 1))) c.loop-p.invariant
    ∙ sym (kept_more line test (counted c.args.text.now 0) 1 p (p + 1) (omega arith)))

pub returns : goal.returns
returns c =
    let p = c.loop-p.p in
    let n = length c.args.file.now.roll.names in
    let old = c.args.text.now in
    let test : ℕ → Bool = is_doubtful c.args.doubt c.args.file.now.roll c.args.tally.now in
    let line : ℕ → List ℕ = candidate_line c.args.file.now.input (doubt_words c.args.doubt) in
    let whole = ap (λ (r : RollList). length r.names) c.roll.ensures in
    let all : p ≡ n = omega (arith, c.candidates-p-end.ensures.value, whole) in
    subst (λ (l : List ℕ). OnOk c.push_more.result (c.push_more.new.text ≡ l))
    (all_told line old c.loop-p.text c.loop-p.count (filter test (range_with_len 1 p)) c.loop-p.invariant
    ∙ ap (λ (k : ℕ). old ++ told line (filter test (range_with_len 1 k))) all)
    c.push_more.ensures
