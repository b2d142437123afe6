use Rattle.std.proofs.Common.{◌≡◌}
use Rattle.input_text.specs.Reads.{tokens_left}
use Rattle.ballot_findings.specs.Sites.{strings}
use Rattle.ballot_findings.proofs.reading.next_string.Given as goal

abbrev pub invariant-loop-token : goal.invariant-loop-token
invariant-loop-token l = record {
  bytes : l.tokens.bytes ≡ l.fn.tokens.bytes;
  same : strings l.fn.tokens.rest.tokens ≡ strings l.tokens.rest.tokens;
}

abbrev pub decreases-loop-token : goal.decreases-loop-token
decreases-loop-token l = tokens_left l.tokens
