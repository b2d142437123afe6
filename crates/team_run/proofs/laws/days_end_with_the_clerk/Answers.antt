use Rattle.team_run.proofs.DayEnd.{days_end}
use Rattle.team_run.proofs.laws.days_end_with_the_clerk.Goals as goal

pub returns : goal.returns
returns c = days_end c.versions_stay.ensures.histories c.versions_stay.ensures.stand c.the_clerk_has_seen_all.ensures.all
