use Rattle.std.proofs.Common.{◌≡◌, ◌∷◌}
use Rattle.input_text.specs.Reader.{placed}
use Rattle.input_text.specs.Reads.{tokens_left}
use Rattle.ballot_findings.specs.Sites.{withdrawn_ranks}
use Rattle.ballot_findings.proofs.sites.withdrawn_behind.Given as goal

abbrev pub invariant-loop-next : goal.invariant-loop-next
invariant-loop-next l = record {
  bytes : l.tokens.bytes ≡ l.fn.tokens.bytes;
  same :
      withdrawn_ranks l.fn.roll.withdrawn (placed l.fn.tokens.bytes l.fn.first ∷ l.fn.tokens.rest.tokens)
      ≡ withdrawn_ranks l.fn.roll.withdrawn (placed l.fn.tokens.bytes l.last ∷ l.tokens.rest.tokens);
}

abbrev pub decreases-loop-next : goal.decreases-loop-next
decreases-loop-next l = tokens_left l.tokens
