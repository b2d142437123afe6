use Rattle.std.proofs.Common.{◌≡◌, ◌+◌, ◌++◌}
use Rattle.meek_trial.specs.Trial.{teams, draws_before, first}
use Rattle.meek_trial.proofs.day.put_teams.Given as goal

abbrev pub invariant-loop-team : goal.invariant-loop-team
invariant-loop-team l = record {
  text : l.text.items ≡ l.fn.text.items ++ teams l.fn.number l.team;
  draws : l.draws ≡ record { number = l.fn.number; taken = draws_before (first l.fn.number (l.team + 1)) };
}
