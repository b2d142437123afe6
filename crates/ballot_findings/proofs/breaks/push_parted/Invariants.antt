use Rattle.std.proofs.Common.{◌≡◌, []}
use Rattle.std.specs.Prelude.{codes}
use Rattle.input_text.specs.Reader.{placed}
use Rattle.input_text.specs.Reads.{tokens_left}
use Rattle.ballot_findings.specs.Breaks.{parted_from}
use Rattle.ballot_findings.specs.Counted.{counted, with_lines}
use Rattle.ballot_findings.specs.Lines.{place_line}
use Rattle.ballot_findings.specs.Places.{IsMarkOf}
use Rattle.ballot_findings.proofs.breaks.push_parted.Given as goal

abbrev pub invariant-loop-next : goal.invariant-loop-next
invariant-loop-next l = record {
  bytes : l.tokens.bytes ≡ l.input;
  mark : IsMarkOf l.input l.last.at l.mark;
  lines :
      with_lines (λ token. place_line l.input (codes "look line ends within a ballot") [] token.at) (counted l.text l.count)
      (parted_from l.input (placed l.input l.last) l.tokens.rest.tokens)
      ≡ with_lines (λ token. place_line l.input (codes "look line ends within a ballot") [] token.at) (counted l.fn.text 0)
      (parted_from l.input (placed l.input l.fn.first) l.fn.tokens.rest.tokens);
}

abbrev pub decreases-loop-next : goal.decreases-loop-next
decreases-loop-next l = tokens_left l.tokens
