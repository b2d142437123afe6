use Rattle.std.proofs.Common.{◌≡◌, ◌∷◌, [], ◌++◌, List, ℕ, Bool, true, length, ap, arith, subst, sym}
use Rattle.std.specs.Prelude.{OnOk, codes, nat_lt}
use Rattle.std.proofs.lemmas.Bool.{lt-ltb}
use Rattle.ballot_findings.specs.Breaks.{longer_lines}
use Rattle.ballot_findings.specs.Lines.{only_if, place_line}
use Rattle.ballot_findings.proofs.breaks.push_longer.Goals as goal

pub returns : goal.returns
unfolding longer_lines
returns c =
    let input = c.args.input.now in
    let most = c.args.most in
    let line : List ℕ = place_line input (codes "look longer than a count reads") (most ∷ []) most in
    let longer : nat_lt most (length input) ≡ true =
    lt-ltb most (length input) (omega (arith, c.if-input-most.false)) in
    subst (λ (l : List ℕ). OnOk c.push_place_line.result (c.push_place_line.new.self ≡ c.args.text.now ++ l))
    (sym (ap (λ (b : Bool). only_if b line) longer)) (c.push_place_line.ensures input most c.mark_of-behind.ensures)
