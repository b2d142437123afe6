use Rattle.std.proofs.Common.{◌∙◌, ap, drop, subst}
use Rattle.std.proofs.lemmas.List.{drop-drop}
use Rattle.input_text.specs.Token.{Placed}
use Rattle.ballot_findings.specs.Places.{IsMarkOf}
use Rattle.ballot_findings.specs.Sites.{strings, tokens_of}
use Rattle.ballot_findings.proofs.SiteLemmas.{marks_more, name_behind}
use Rattle.ballot_findings.proofs.sites.name_marks.Goals as goal

pub loop-preserved : goal.loop-preserved
loop-preserved c =
    let input = c.args.input.now in
    let n = c.loop.counter in
    let here =
    subst (λ place. IsMarkOf input place c.next_string_mark-mark.result)
    (name_behind input n (strings c.loop.tokens.rest.tokens) c.loop.invariant.rest)
    c.next_string_mark-mark.ensures.is in
    record {
      mark = c.next_string_mark-mark.ensures.is.is;
      rest =
          c.next_string_mark-mark.ensures.rest
          ∙ (ap (drop {A = Placed} 1) c.loop.invariant.rest ∙ drop-drop 1 n (strings (tokens_of input)));
      marks =
          marks_more input n c.loop.marks.items c.push.new.self.items c.next_string_mark-mark.result
          c.loop.invariant.marks c.in_ok-push.ensures.items here;
    }
