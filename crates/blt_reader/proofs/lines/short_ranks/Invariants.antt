use Rattle.std.proofs.Common.{◌≡◌, ◌+◌, ◌≤◌, [], length, take}
use Rattle.plain_ballots.specs.Ranking.{IsRanking}
use Rattle.input_text.specs.Judged.{reads}
use Rattle.blt_reader.specs.BallotTable.{at_rank}
use Rattle.input_text.specs.Reads.{IsBehind, tokens_left}
use Rattle.blt_reader.specs.Reads.{Marks}
use Rattle.blt_reader.proofs.lines.short_ranks.Given as goal

abbrev pub invariant-loop-n : goal.invariant-loop-n
invariant-loop-n l = record {
  same : reads (at_rank l.candidates) [] l.fn.tokens.rest ≡ reads (at_rank l.candidates) (take l.len l.ranks) l.ahead.rest;
  ranking : IsRanking l.candidates (take l.len l.ranks);
  within : l.len ≤ l.candidates;
  room : length l.ranks ≡ l.candidates;
  numbers : length l.named ≡ l.candidates + 1;
  marks : Marks l.candidates l.named (take l.len l.ranks);
  not_more : tokens_left l.ahead ≤ tokens_left l.fn.tokens;
  behind : IsBehind l.fn.tokens l.ahead;
}

abbrev pub decreases-loop-n : goal.decreases-loop-n
decreases-loop-n l = tokens_left l.ahead
