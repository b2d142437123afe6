use Rattle.std.proofs.Common.{◌≡◌, drop}
use Rattle.ballot_findings.specs.Sites.{strings}
use Rattle.ballot_findings.proofs.breaks.pass_strings.Given as goal

abbrev pub invariant-loop : goal.invariant-loop
invariant-loop l = record {
  bytes : l.tokens.bytes ≡ l.fn.tokens.bytes;
  rest : strings l.tokens.rest.tokens ≡ drop l.counter (strings l.fn.tokens.rest.tokens);
}
