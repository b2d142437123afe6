use Rattle.std.proofs.Common.{◌≡◌, ◌∙◌, ℕ, List, [], ◌++◌, ap, append-nil, drop, sym}
use Rattle.std.specs.Prelude.{codes}
use Rattle.input_text.specs.Reader.{Reader}
use Rattle.input_text.specs.Token.{Placed}
use Rattle.std.proofs.lemmas.List.{drop-drop}
use Rattle.ballot_findings.specs.Breaks.{parted}
use Rattle.ballot_findings.specs.Lines.{place_line}
use Rattle.ballot_findings.specs.Sites.{tokens_of}
use Rattle.ballot_findings.proofs.Told.{nothing_told}
use Rattle.ballot_findings.proofs.breaks.push_breaks.Goals as goal

pub returns-in-None : goal.returns-in-None
returns-in-None c =
    let input = c.args.input.now in
    let line : Placed → List ℕ = λ token. place_line input (codes "look line ends within a ballot") [] token.at in
    let first = c.next_token.ensures.rest ∙ ap (λ (r : Reader). drop {A = Placed} 1 r.rest.tokens) c.new-tokens.ensures in
    let second : c.next_token-2.new.tokens.rest.tokens ≡ drop 2 (tokens_of input) =
    c.next_token-2.ensures.rest ∙ (ap (drop {A = Placed} 1) first ∙ drop-drop 1 1 (tokens_of input)) in
    let none = sym second ∙ c.in-None.ensures.none in
    let silent =
    (nothing_told line (λ t empty. absurd (cc)) (parted input (drop 2 (tokens_of input)))).1 (ap (parted input) none) in
    sym (append-nil c.args.text.now) ∙ ap (λ (l : List ℕ). c.args.text.now ++ l) (sym silent)
