use Rattle.team_run.proofs.Work.{still_at_work}
use Rattle.team_run.proofs.team.Team.make.Goals as goal

pub returns-in-Change-clause-work : goal.returns-in-Change-clause-work
returns-in-Change-clause-work g c =
    still_at_work c.versions_stay.ensures.stay c.args.self.now.pass c.make_change.new.pass
    c.args.self.now.versions.items c.make_change.ensures.same c.make_change.ensures.no_freeze c.requires.work

pub returns-in-Strike-clause-work : goal.returns-in-Strike-clause-work
returns-in-Strike-clause-work g c =
    still_at_work c.versions_stay.ensures.stay c.args.self.now.pass c.make_strike.new.pass
    c.args.self.now.versions.items c.make_strike.ensures.same c.make_strike.ensures.no_freeze c.requires.work
