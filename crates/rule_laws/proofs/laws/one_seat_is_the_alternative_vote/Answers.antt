use Rattle.rule_laws.proofs.OneSeat.{count-places}
use Rattle.rule_laws.proofs.Runoffs.{count-runoffs}
use Rattle.rule_laws.proofs.TwoSeats.{count-by_both}
use Rattle.rule_laws.proofs.laws.one_seat_is_the_alternative_vote.Goals as goal

pub returns-clause-rules : goal.returns-clause-rules
returns-clause-rules c = count-by_both

pub returns-clause-rows : goal.returns-clause-rows
returns-clause-rows c = count-runoffs

pub returns-clause-places : goal.returns-clause-places
returns-clause-places c = count-places
