use Rattle.std.proofs.Common.{◌≡◌, ◌∙◌, ℕ, List, [], ap, subst, sym}
use Rattle.std.specs.Prelude.{OnOk, codes}
use Rattle.input_text.specs.Token.{Placed}
use Rattle.ballot_findings.specs.Counted.{Counted, counted, with_lines}
use Rattle.ballot_findings.specs.Lines.{place_line}
use Rattle.ballot_findings.specs.Sites.{strings}
use Rattle.ballot_findings.proofs.CountedLines.{all_told}
use Rattle.ballot_findings.proofs.breaks.push_strings.Goals as goal

pub loop-token-preserved : goal.loop-token-preserved
loop-token-preserved c =
    let input = c.args.input.now in
    let line : Placed → List ℕ = λ token. place_line input (codes "look string behind the title") [] token.at in
    let lines = counted c.loop-token.text c.loop-token.count in
    record {
      bytes = c.next_string.ensures.bytes ∙ c.loop-token.invariant.bytes;
      mark = c.mark_of-mark.ensures.is;
      lines =
          ap (λ (ls : Counted). with_lines line ls (strings c.next_string.new.tokens.rest.tokens)) c.in_ok-push_string.ensures
          ∙ (ap (with_lines line lines) (sym c.in-Some.ensures.some) ∙ c.loop-token.invariant.lines);
    }

pub returns : goal.returns
returns c =
    let input = c.args.input.now in
    let line : Placed → List ℕ = λ token. place_line input (codes "look string behind the title") [] token.at in
    let lines = counted c.loop-token.text c.loop-token.count in
    let is = ap (with_lines line lines) (sym c.in_default.ensures.none) ∙ c.loop-token.invariant.lines in
    subst (λ (l : List ℕ). OnOk c.push_more.result (c.push_more.new.text ≡ l))
    (all_told line c.args.text.now c.loop-token.text c.loop-token.count (strings c.args.tokens.now.rest.tokens) is)
    c.push_more.ensures
