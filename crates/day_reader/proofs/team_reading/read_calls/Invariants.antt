use Rattle.std.proofs.Common.{◌≡◌}
use Rattle.input_text.specs.Judged.{reads}
use Rattle.input_text.specs.Reads.{IsBehind, tokens_left}
use Rattle.day_reader.specs.Call.{freezes}
use Rattle.day_reader.specs.TeamTable.{InTeam, and_team, at_teams}
use Rattle.day_reader.proofs.team_reading.read_calls.Given as goal

abbrev pub invariant-loop-keyword : goal.invariant-loop-keyword
invariant-loop-keyword l = record {
  same : reads (at_teams l.candidates) (InTeam l.before l.fn.script) l.fn.tokens.rest
      ≡ reads (at_teams l.candidates) (InTeam l.before l.script) l.tokens.rest;
  counted : l.frozen ≡ freezes (and_team l.before l.script);
  team : l.script.team ≡ l.fn.script.team;
  behind : IsBehind l.fn.tokens l.tokens;
}

abbrev pub decreases-loop-keyword : goal.decreases-loop-keyword
decreases-loop-keyword l = tokens_left l.tokens
