use Rattle.preflib_text.proofs.CountingLaws.{tally_of_ballots, none_closed}
use Rattle.preflib_text.proofs.laws.tallies_count_ballots.Goals as goal

pub returns-clause-counts : goal.returns-clause-counts
returns-clause-counts c = tally_of_ballots

pub returns-clause-none_closed : goal.returns-clause-none_closed
returns-clause-none_closed c = none_closed
