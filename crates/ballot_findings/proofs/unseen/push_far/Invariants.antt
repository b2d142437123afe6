use Rattle.std.proofs.Common.{◌≡◌}
use Rattle.input_text.specs.Reads.{tokens_left}
use Rattle.ballot_findings.specs.Unseen.{far_lines, first_far}
use Rattle.ballot_findings.proofs.unseen.push_far.Given as goal

abbrev pub invariant-loop-token : goal.invariant-loop-token
invariant-loop-token l = record {
  bytes : l.tokens.bytes ≡ l.input;
  text : l.text ≡ l.fn.text;
  same : first_far l.input l.tokens.rest.tokens ≡ far_lines l.input;
}

abbrev pub decreases-loop-token : goal.decreases-loop-token
decreases-loop-token l = tokens_left l.tokens
