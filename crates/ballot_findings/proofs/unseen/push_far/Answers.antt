use Rattle.std.proofs.Common.{◌≡◌, ◌∙◌, ℕ, List, [], ◌++◌, ap, append-nil, subst, sym}
use Rattle.std.specs.Prelude.{OnOk, codes}
use Rattle.input_text.specs.Reader.{placed}
use Rattle.input_text.specs.Token.{Placed}
use Rattle.ballot_findings.specs.Lines.{place_line}
use Rattle.ballot_findings.specs.Unseen.{far_lines, first_far, is_far}
use Rattle.ballot_findings.proofs.Firstly.{first_here}
use Rattle.ballot_findings.proofs.unseen.push_far.Goals as goal

pub returns-then-is_far : goal.returns-then-is_far
returns-then-is_far c =
    let input = c.args.input.now in
    let line : Placed → List ℕ = λ t. place_line input (codes "look hidden by blanks") [] t.at in
    let found =
    first_here (λ (t : Placed). is_far input t.at) line (placed c.loop-token.tokens.bytes c.in-Some.token)
    c.next_token.new.tokens.rest.tokens (sym c.is_far.ensures ∙ c.if-is_far.true) in
    let same =
    sym c.loop-token.invariant.same ∙ (ap (first_far input) c.in-Some.ensures.some ∙ found) in
    subst (λ (t : List ℕ). OnOk c.push_place.result (c.push_place.new.text ≡ t ++ far_lines input))
    c.loop-token.invariant.text
    (subst (λ (l : List ℕ). OnOk c.push_place.result (c.push_place.new.text ≡ c.loop-token.text ++ l)) (sym same)
    c.push_place.ensures)

pub returns : goal.returns
returns c =
    let input = c.args.input.now in
    let none = sym c.loop-token.invariant.same ∙ ap (first_far input) c.in_default.ensures.none in
    c.loop-token.invariant.text
    ∙ (sym (append-nil c.args.text.now) ∙ ap (λ (l : List ℕ). c.args.text.now ++ l) (sym none))
