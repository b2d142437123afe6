use Rattle.std.proofs.Common.{◌≡◌, ◌∙◌, ◌∷◌, [], ◌++◌, ℕ, List, Bool, ap, subst, sym}
use Rattle.std.specs.Prelude.{OnOk, codes, not}
use Rattle.std.proofs.lemmas.Bool.{ne_eqb}
use Rattle.ballot_findings.specs.Lines.{only_if, place_line, withdrawn_lines}
use Rattle.ballot_findings.specs.Sites.{withdrawn_at}
use Rattle.ballot_findings.proofs.warnings.push_of_withdrawn.Goals as goal

pub returns : goal.returns
returns c =
    let n = c.of_withdrawn-ballots.result in
    let input = c.args.file.now.input in
    let marks = c.args.file.now.roll.withdrawn in
    let line : ℕ → List ℕ = λ k.
    place_line input (codes "look ballots with withdrawn candidates") (k ∷ []) (withdrawn_at input marks) in
    let written : line n ≡ withdrawn_lines input marks n =
    sym (ap (λ (b : Bool). only_if (not b) (line n)) (ne_eqb n 0 c.if-ballots-eq0.false)) in
    let text = written ∙ ap (withdrawn_lines input marks) c.of_withdrawn-ballots.ensures in
    subst (λ (l : List ℕ). OnOk c.push_place_line.result (c.push_place_line.new.self ≡ c.args.text.now ++ l)) text
    (c.push_place_line.ensures input (withdrawn_at input marks) c.withdrawn.ensures)
