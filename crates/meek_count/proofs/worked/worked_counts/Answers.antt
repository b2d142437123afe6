use Rattle.meek_count.proofs.WorkedHolds.{ThreeIterations-holds, AtSixPlaces-holds, SampleElection-holds, LoneBallot-holds}
use Rattle.meek_count.proofs.worked.worked_counts.Goals as goal

pub returns-clause-three_iterations : goal.returns-clause-three_iterations
returns-clause-three_iterations c = ThreeIterations-holds

pub returns-clause-at_six_places : goal.returns-clause-at_six_places
returns-clause-at_six_places c = AtSixPlaces-holds

pub returns-clause-sample_election : goal.returns-clause-sample_election
returns-clause-sample_election c = SampleElection-holds

pub returns-clause-lone_ballot : goal.returns-clause-lone_ballot
returns-clause-lone_ballot c = LoneBallot-holds
