use Rattle.std.proofs.Common.{◌≡◌, []}
use Rattle.input_text.specs.Reads.{IsBehind, tokens_left}
use Rattle.day_reader.specs.Reads.{next_team}
use Rattle.day_reader.proofs.team_reading.read_teams.Given as goal

abbrev pub invariant-loop-more : goal.invariant-loop-more
invariant-loop-more l = record {
  same : next_team l.candidates [] l.team_follows l.fn.tokens.rest ≡ next_team l.candidates l.teams l.more l.tokens.rest;
  behind : IsBehind l.fn.tokens l.tokens;
}

abbrev pub decreases-loop-more : goal.decreases-loop-more
decreases-loop-more l = tokens_left l.tokens
