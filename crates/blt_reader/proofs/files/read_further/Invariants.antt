use Rattle.std.proofs.Common.{◌≡◌}
use Rattle.blt_reader.specs.Poll.{Poll}
use Rattle.input_text.specs.Judged.{outcome, Ends, ended}
use Rattle.blt_reader.specs.BallotTable.{Limit}
use Rattle.blt_reader.specs.BltTable.{at_file_token}
use Rattle.input_text.specs.Reads.{tokens_left}
use Rattle.blt_reader.proofs.files.read_further.Given as goal

abbrev pub invariant-loop-token : goal.invariant-loop-token
invariant-loop-token l =
    (limit : Limit) (poll : Poll) → outcome (at_file_token limit) ended
    (Ends poll) l.fn.tokens.rest.tokens l.fn.tokens.rest.ending
    ≡ outcome (at_file_token limit) ended (Ends poll) l.tokens.rest.tokens l.tokens.rest.ending

abbrev pub decreases-loop-token : goal.decreases-loop-token
decreases-loop-token l = tokens_left l.tokens
