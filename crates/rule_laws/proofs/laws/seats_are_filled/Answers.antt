use Rattle.rule_laws.proofs.SeatLemmas.{count-elected, count-none_hopeful}
use Rattle.rule_laws.proofs.Decided.{count-decided, count-withdrawn}
use Rattle.rule_laws.proofs.laws.seats_are_filled.Goals as goal

pub returns-clause-filled : goal.returns-clause-filled
returns-clause-filled c = count-elected

pub returns-clause-none_hopeful : goal.returns-clause-none_hopeful
returns-clause-none_hopeful c = count-none_hopeful

pub returns-clause-decided : goal.returns-clause-decided
returns-clause-decided c = count-decided

pub returns-clause-withdrawn : goal.returns-clause-withdrawn
returns-clause-withdrawn c = count-withdrawn
