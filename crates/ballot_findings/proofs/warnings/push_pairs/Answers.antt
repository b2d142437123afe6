use Rattle.std.proofs.Common.{◌≡◌, ◌∙◌, ℕ, ◌+◌, ◌-◌, ◌++◌, Bool, List, ap, arith, length, subst, sym}
use Rattle.std.specs.Prelude.{OnOk}
use Rattle.std.specs.List.{filter, flat_map, range_with_len}
use Rattle.candidate_roll.specs.Roll.{RollList}
use Rattle.ballot_findings.specs.Counted.{Counted, counted, with_lines}
use Rattle.ballot_findings.specs.Doubts.{are_like, like_words}
use Rattle.ballot_findings.specs.Lines.{later_pairs, pair_line, told}
use Rattle.ballot_findings.proofs.CountedLines.{all_told, pairs_more}
use Rattle.ballot_findings.proofs.warnings.push_pairs.Goals as goal

pub loop-p-preserved : goal.loop-p-preserved
loop-p-preserved c =
    let p = c.loop-p.p in
    let n = length c.args.file.now.roll.names in
    let test : ℕ → ℕ → Bool = are_like c.args.likeness c.args.file.now.roll.names in
    let line : ℕ → ℕ → List ℕ = pair_line c.args.file.now.input (like_words c.args.likeness) in
    c.in_ok-push_pairs_of.ensures
    ∙ (ap (λ (ls : Counted). with_lines (line (p + 1)) ls (filter (test (p + 1)) (range_with_len (p + 1 + 1) (n - (p + 1)))))
    c.loop-p.invariant
    ∙ sym (pairs_more line test (counted c.args.text.now 0) n p (p + 1) (omega arith)))

pub returns : goal.returns
returns c =
    let p = c.loop-p.p in
    let n = length c.args.file.now.roll.names in
    let old = c.args.text.now in
    let test : ℕ → ℕ → Bool = are_like c.args.likeness c.args.file.now.roll.names in
    let line : ℕ × ℕ → List ℕ = λ two. pair_line c.args.file.now.input (like_words c.args.likeness) two.0 two.1 in
    let whole = ap (λ (r : RollList). length r.names) c.roll.ensures in
    let all : p ≡ n = omega (arith, c.candidates-p-end.ensures.value, whole) in
    subst (λ (l : List ℕ). OnOk c.push_more.result (c.push_more.new.text ≡ l))
    (all_told line old c.loop-p.text c.loop-p.count (flat_map (later_pairs n test) (range_with_len 1 p)) c.loop-p.invariant
    ∙ ap (λ (k : ℕ). old ++ told line (flat_map (later_pairs n test) (range_with_len 1 k))) all)
    c.push_more.ensures
