use Rattle.std.proofs.Common.{◌∙◌, ap, drop}
use Rattle.input_text.specs.Token.{Placed}
use Rattle.std.proofs.lemmas.List.{drop-drop}
use Rattle.ballot_findings.specs.Sites.{strings}
use Rattle.ballot_findings.proofs.breaks.pass_strings.Goals as goal

pub loop-preserved : goal.loop-preserved
loop-preserved c = record {
  bytes = c.next_string.ensures.bytes ∙ c.loop.invariant.bytes;
  rest =
      c.next_string.ensures.rest
      ∙ (ap (drop {A = Placed} 1) c.loop.invariant.rest
      ∙ drop-drop 1 c.loop.counter (strings c.args.tokens.now.rest.tokens));
}
