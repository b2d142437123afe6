use Rattle.std.proofs.Common.{◌≡◌}
use Rattle.candidate_roll.specs.Roll.{RollList}
use Rattle.input_text.specs.Judged.{reads}
use Rattle.input_text.specs.Reads.{IsBehind, tokens_left}
use Rattle.day_reader.specs.DayTable.{BehindTitle, at_token}
use Rattle.day_reader.proofs.lots.read_to_lots.Given as goal

abbrev pub invariant-loop-token : goal.invariant-loop-token
invariant-loop-token l = record {
  same :
      (roll : RollList)
      → reads at_token (BehindTitle roll) l.fn.tokens.rest
      ≡ reads at_token (BehindTitle roll) l.tokens.rest;
  behind : IsBehind l.fn.tokens l.tokens;
}

abbrev pub decreases-loop-token : goal.decreases-loop-token
decreases-loop-token l = tokens_left l.tokens
