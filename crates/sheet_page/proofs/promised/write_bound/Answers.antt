use Rattle.sheet_page.proofs.Parts.{room}
use Rattle.sheet_page.proofs.promised.write_bound.Goals as goal

pub units_text-quota-requires-clause-bound : goal.units_text-quota-requires-clause-bound
units_text-quota-requires-clause-bound g c =
    room g.row.P c.promised_quota.result c.requires.places.0 c.promised_quota.ensures.bound

pub units_text-over-requires-clause-bound : goal.units_text-over-requires-clause-bound
units_text-over-requires-clause-bound g c = room g.row.P c.slack.result c.requires.places.0 c.slack.ensures.bound
