use Rattle.std.proofs.Common.{vec_len}
use Rattle.team_run.specs.Runs.{IsTaking}
use Rattle.team_run.proofs.closing.take_all_in.Given as goal

abbrev pub invariant-teams : goal.invariant-teams
invariant-teams l =
    IsTaking l.fn.office l.fn.clerk l.fn.teams.items l.teams.items l.clerk l.versions.items l.whole

abbrev pub decreases-teams : goal.decreases-teams
decreases-teams l = vec_len l.teams
