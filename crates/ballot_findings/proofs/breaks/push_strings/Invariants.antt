use Rattle.std.proofs.Common.{◌≡◌, [], length}
use Rattle.std.specs.Prelude.{codes}
use Rattle.ballot_findings.specs.Counted.{counted, with_lines}
use Rattle.ballot_findings.specs.Lines.{place_line}
use Rattle.ballot_findings.specs.Sites.{strings}
use Rattle.ballot_findings.specs.Places.{IsMark}
use Rattle.ballot_findings.proofs.breaks.push_strings.Given as goal

abbrev pub invariant-loop-token : goal.invariant-loop-token
invariant-loop-token l = record {
  bytes : l.tokens.bytes ≡ l.input;
  mark : IsMark l.input l.mark;
  lines :
      with_lines (λ token. place_line l.input (codes "look string behind the title") [] token.at) (counted l.text l.count)
      (strings l.tokens.rest.tokens)
      ≡ with_lines (λ token. place_line l.input (codes "look string behind the title") [] token.at) (counted l.fn.text 0)
      (strings l.fn.tokens.rest.tokens);
}

abbrev pub decreases-loop-token : goal.decreases-loop-token
decreases-loop-token l = length (strings l.tokens.rest.tokens)
