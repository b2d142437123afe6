use Rattle.std.proofs.Common.{length}
use Rattle.team_run.specs.Runs.{IsMaking}
use Rattle.team_run.proofs.team.Team.make_all.Given as goal

abbrev pub invariant-calls : goal.invariant-calls
invariant-calls g l = IsMaking l.fn.office l.fn.self.pass.caller l.fn.self.left l.self.left l.self.pass l.self.versions.items

abbrev pub decreases-calls : goal.decreases-calls
decreases-calls g l = length l.self.left
