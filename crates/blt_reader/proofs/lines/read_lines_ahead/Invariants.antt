use Rattle.std.proofs.Common.{◌≡◌, ◌+◌, length}
use Rattle.input_text.specs.Reads.{IsBehind, tokens_left}
use Rattle.blt_reader.specs.Pieces.{counted}
use Rattle.blt_reader.proofs.HeldLines.{HeldSoFar}
use Rattle.blt_reader.proofs.lines.read_lines_ahead.Given as goal

abbrev pub invariant-loop-count : goal.invariant-loop-count
invariant-loop-count g l =
    record {
      so_far :
          HeldSoFar g.B.BallotStore.holds l.bounds l.fn.store (counted l.fn.first l.fn.tokens.rest) l.ballots
          (counted (l.count, l.at) l.tokens.rest);
      among : g.B.BallotStore.among l.ballots ≡ l.bounds.candidates;
      numbers : length l.named ≡ l.bounds.candidates + 1;
      room : length l.ranks ≡ l.bounds.candidates;
      behind : IsBehind l.fn.tokens l.tokens;
    }

abbrev pub decreases-loop-count : goal.decreases-loop-count
decreases-loop-count g l = tokens_left l.tokens
