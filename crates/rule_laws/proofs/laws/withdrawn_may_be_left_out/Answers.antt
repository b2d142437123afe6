use Rattle.std.proofs.Common.{refl}
use Rattle.rule_laws.proofs.Absent.{count-left_out}
use Rattle.rule_laws.proofs.AbsentElection.{election-left}
use Rattle.rule_laws.proofs.laws.withdrawn_may_be_left_out.Goals as goal

pub returns : goal.returns
returns c = record {
  same = count-left_out;
  election = election-left;
  by_hand = record { ballots = refl; roll = refl; lots = refl; row = refl; last = refl };
}
