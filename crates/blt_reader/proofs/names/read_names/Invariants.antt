use Rattle.std.proofs.Common.{◌≡◌, List, [], length}
use Rattle.plain_ballots.specs.declared.ballot_line.BallotLine.{BallotLine}
use Rattle.input_text.specs.Judged.{reads}
use Rattle.blt_reader.specs.BallotTable.{Limit}
use Rattle.blt_reader.specs.BltTable.{Heading, behind_name, at_token}
use Rattle.input_text.specs.Reads.{IsBehind}
use Rattle.blt_reader.proofs.names.read_names.Given as goal

abbrev pub invariant-loop : goal.invariant-loop
invariant-loop l = record {
  same : (limit : Limit) (heading : Heading) (lines : List BallotLine) → heading.candidates ≡ l.candidates
      → reads (at_token limit) (behind_name heading lines []) l.fn.tokens.rest
      ≡ reads (at_token limit) (behind_name heading lines l.names) l.tokens.rest;
  counted : length l.names ≡ l.counter;
  behind : IsBehind l.fn.tokens l.tokens;
}
