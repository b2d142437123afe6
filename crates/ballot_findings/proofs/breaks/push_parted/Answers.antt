use Rattle.std.proofs.Common.{◌≡◌, ◌∙◌, ℕ, List, [], ◌∷◌, ap, subst, sym}
use Rattle.std.specs.Prelude.{OnOk, codes}
use Rattle.input_text.specs.Reader.{placed}
use Rattle.input_text.specs.Token.{Placed}
use Rattle.ballot_findings.specs.Breaks.{is_parted, parted_from}
use Rattle.ballot_findings.specs.Counted.{Counted, counted, with_lines}
use Rattle.ballot_findings.specs.Lines.{place_line}
use Rattle.ballot_findings.proofs.CountedLines.{all_told, one_if}
use Rattle.ballot_findings.proofs.breaks.push_parted.Goals as goal

pub loop-next-preserved : goal.loop-next-preserved
loop-next-preserved c =
    let input = c.args.input.now in
    let line : Placed → List ℕ = λ token. place_line input (codes "look line ends within a ballot") [] token.at in
    let last = placed input c.loop-next.last in
    let next = placed input c.in-Some.next in
    let rest = c.next_token.new.tokens.rest.tokens in
    let lines = counted c.loop-next.text c.loop-next.count in
    let coming : c.loop-next.tokens.rest.tokens ≡ next ∷ rest =
    c.in-Some.ensures.some ∙ ap (λ (bs : List ℕ). placed bs c.in-Some.next ∷ rest) c.loop-next.invariant.bytes in
    record {
      bytes = c.next_token.ensures.bytes ∙ c.loop-next.invariant.bytes;
      mark = c.mark_of-ahead.ensures;
      lines =
          ap (λ (ls : Counted). with_lines line ls (parted_from input next rest)) c.in_ok-push_if_parted.ensures
          ∙ (sym (one_if line (is_parted input last next) lines last (parted_from input next rest))
          ∙ (ap (λ (l : List Placed). with_lines line lines (parted_from input last l)) (sym coming)
          ∙ c.loop-next.invariant.lines));
    }

pub returns : goal.returns
returns c =
    let input = c.args.input.now in
    let line : Placed → List ℕ = λ token. place_line input (codes "look line ends within a ballot") [] token.at in
    let lines = counted c.loop-next.text c.loop-next.count in
    let is =
    ap (λ (l : List Placed). with_lines line lines (parted_from input (placed input c.loop-next.last) l))
    (sym c.in_default.ensures.none)
    ∙ c.loop-next.invariant.lines in
    subst (λ (l : List ℕ). OnOk c.push_more.result (c.push_more.new.text ≡ l))
    (all_told line c.args.text.now c.loop-next.text c.loop-next.count
    (parted_from input (placed input c.args.first) c.args.tokens.now.rest.tokens) is)
    c.push_more.ensures
