use Rattle.rule_laws.proofs.ParadoxesHold.{CidHasTheOneSeat-holds, CidHasNoneOfTwoSeats-holds}
use Rattle.rule_laws.proofs.laws.house_monotonicity_fails.Goals as goal

pub returns-clause-one_seat : goal.returns-clause-one_seat
returns-clause-one_seat c = CidHasTheOneSeat-holds

pub returns-clause-two_seats : goal.returns-clause-two_seats
returns-clause-two_seats c = CidHasNoneOfTwoSeats-holds
