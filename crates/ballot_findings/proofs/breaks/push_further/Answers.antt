use Rattle.std.proofs.Common.{◌≡◌, ◌∙◌, ◌+◌, ◌++◌, List, ap, drop, subst}
use Rattle.std.specs.Prelude.{OnOk}
use Rattle.input_text.specs.Reader.{Reader}
use Rattle.input_text.specs.Token.{Placed}
use Rattle.std.proofs.lemmas.List.{drop-drop}
use Rattle.ballot_findings.specs.Breaks.{string_lines}
use Rattle.ballot_findings.specs.Sites.{strings, tokens_of}
use Rattle.ballot_findings.proofs.breaks.push_further.Goals as goal

pub returns : goal.returns
returns c =
    let input = c.args.input.now in
    let n = c.args.candidates in
    let behind : strings c.next_string.new.tokens.rest.tokens ≡ drop (n + 1) (strings (tokens_of input)) =
    c.next_string.ensures.rest
    ∙ (ap (drop {A = Placed} 1)
    (c.pass_strings.ensures.rest ∙ ap (λ (r : Reader). drop n (strings r.rest.tokens)) c.new-tokens.ensures)
    ∙ drop-drop 1 n (strings (tokens_of input))) in
    subst (λ (l : List Placed). OnOk c.push_strings.result
    (c.push_strings.new.text ≡ c.args.text.now ++ string_lines input l))
    behind c.push_strings.ensures
