use Rattle.team_run.proofs.TakingLemmas.{taking_none, taking_more}
use Rattle.team_run.proofs.closing.take_all_in.Goals as goal

pub teams-init : goal.teams-init
teams-init c =
    taking_none c.args.office.now c.args.clerk.now c.args.teams.items c.reverse.new.self.items
    c.new-versions.result.items c.requires.teams c.requires.open_teams c.new-versions.ensures.items
    c.reverse.ensures.items

pub teams-preserved : goal.teams-preserved
teams-preserved c =
    taking_more c.args.office.now c.args.clerk.now c.teams.clerk c.take_one_in-whole.new.clerk
    c.args.teams.items c.teams.teams.items c.pop.new.self.items c.in-Some.team c.teams.versions.items
    c.take_one_in-whole.new.versions.items c.teams.whole c.take_one_in-whole.result
    c.teams.invariant c.in-Some.ensures.items c.take_one_in-whole.ensures.same
    c.take_one_in-whole.ensures.taken c.take_one_in-whole.ensures.open_teams
    c.take_one_in-whole.ensures.whole
