use Rattle.meek_rule.proofs.WorkedHolds.{CappedKeep-holds, Overfill-holds, SurplusOfOmega-holds}
use Rattle.meek_rule.proofs.WorkedHolds.{SurplusBelowOmega-holds, SurplusNotFalling-holds}
use Rattle.meek_rule.proofs.WorkedHolds.{SurplusFalling-holds, TieWithinSurplus-holds, ThreeBallots-holds}
use Rattle.meek_rule.proofs.WorkedEdgesHold.{RoundedUpTwice-holds, NoVotesSameKeep-holds}
use Rattle.meek_rule.proofs.WorkedEdgesHold.{OneWholeVoteIsNoCap-holds, CappedFromBelowOne-holds}
use Rattle.meek_rule.proofs.WorkedEdgesHold.{OverfillByVotes-holds, KeepsStayAtElection-holds}
use Rattle.meek_rule.proofs.WorkedEdgesHold.{TieAtTheSurplus-holds, ElectedAreNotTied-holds}
use Rattle.meek_rule.proofs.WorkedStepsHold.{OverfillByLots-holds, BelowTheQuotaIsNoCap-holds}
use Rattle.meek_rule.proofs.WorkedStepsHold.{OmegaAboveTheSurplus-holds, OmegaOfTheSurplus-holds}
use Rattle.meek_rule.proofs.WorkedStepsHold.{ElectedInAThirdIteration-holds, TieByLots-holds, TwoAtOnce-holds}
use Rattle.meek_rule.proofs.worked.worked_iterations.Goals as goal

pub returns-clause-capped_keep : goal.returns-clause-capped_keep
returns-clause-capped_keep c = CappedKeep-holds

pub returns-clause-overfill : goal.returns-clause-overfill
returns-clause-overfill c = Overfill-holds

pub returns-clause-surplus_of_omega : goal.returns-clause-surplus_of_omega
returns-clause-surplus_of_omega c = SurplusOfOmega-holds

pub returns-clause-surplus_below_omega : goal.returns-clause-surplus_below_omega
returns-clause-surplus_below_omega c = SurplusBelowOmega-holds

pub returns-clause-surplus_not_falling : goal.returns-clause-surplus_not_falling
returns-clause-surplus_not_falling c = SurplusNotFalling-holds

pub returns-clause-surplus_falling : goal.returns-clause-surplus_falling
returns-clause-surplus_falling c = SurplusFalling-holds

pub returns-clause-tie_within_surplus : goal.returns-clause-tie_within_surplus
returns-clause-tie_within_surplus c = TieWithinSurplus-holds

pub returns-clause-three_ballots : goal.returns-clause-three_ballots
returns-clause-three_ballots c = ThreeBallots-holds

pub returns-clause-rounded_up_twice : goal.returns-clause-rounded_up_twice
returns-clause-rounded_up_twice c = RoundedUpTwice-holds

pub returns-clause-no_votes_same_keep : goal.returns-clause-no_votes_same_keep
returns-clause-no_votes_same_keep c = NoVotesSameKeep-holds

pub returns-clause-one_whole_vote_is_no_cap : goal.returns-clause-one_whole_vote_is_no_cap
returns-clause-one_whole_vote_is_no_cap c = OneWholeVoteIsNoCap-holds

pub returns-clause-capped_from_below_one : goal.returns-clause-capped_from_below_one
returns-clause-capped_from_below_one c = CappedFromBelowOne-holds

pub returns-clause-overfill_by_votes : goal.returns-clause-overfill_by_votes
returns-clause-overfill_by_votes c = OverfillByVotes-holds

pub returns-clause-keeps_stay_at_election : goal.returns-clause-keeps_stay_at_election
returns-clause-keeps_stay_at_election c = KeepsStayAtElection-holds

pub returns-clause-tie_at_the_surplus : goal.returns-clause-tie_at_the_surplus
returns-clause-tie_at_the_surplus c = TieAtTheSurplus-holds

pub returns-clause-elected_are_not_tied : goal.returns-clause-elected_are_not_tied
returns-clause-elected_are_not_tied c = ElectedAreNotTied-holds

pub returns-clause-overfill_by_lots : goal.returns-clause-overfill_by_lots
returns-clause-overfill_by_lots c = OverfillByLots-holds

pub returns-clause-below_the_quota_is_no_cap : goal.returns-clause-below_the_quota_is_no_cap
returns-clause-below_the_quota_is_no_cap c = BelowTheQuotaIsNoCap-holds

pub returns-clause-omega_above_the_surplus : goal.returns-clause-omega_above_the_surplus
returns-clause-omega_above_the_surplus c = OmegaAboveTheSurplus-holds

pub returns-clause-omega_of_the_surplus : goal.returns-clause-omega_of_the_surplus
returns-clause-omega_of_the_surplus c = OmegaOfTheSurplus-holds

pub returns-clause-elected_in_a_third_iteration : goal.returns-clause-elected_in_a_third_iteration
returns-clause-elected_in_a_third_iteration c = ElectedInAThirdIteration-holds

pub returns-clause-tie_by_lots : goal.returns-clause-tie_by_lots
returns-clause-tie_by_lots c = TieByLots-holds

pub returns-clause-two_at_once : goal.returns-clause-two_at_once
returns-clause-two_at_once c = TwoAtOnce-holds
