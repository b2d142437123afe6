-- The worked iterations of lots, omegas and what a step leaves, by computing.
use Rattle.std.proofs.Common.{refl, lit≤}
use Rattle.meek_rule.proofs.WinnersByTest.{winners_by_test}
use Rattle.meek_rule.specs.WorkedSteps.{OverfillByLots, BelowTheQuotaIsNoCap, OmegaAboveTheSurplus}
use Rattle.meek_rule.specs.WorkedSteps.{OmegaOfTheSurplus, ElectedInAThirdIteration, TieByLots, TwoAtOnce}

pub OverfillByLots-holds : OverfillByLots
OverfillByLots-holds = record {
  round = refl;
  iteration = refl;
  states = refl;
  keeps = refl;
  votes_are = refl;
  total = refl;
  quota_is = refl;
  winners = winners_by_test _ _ _ _ _ _ refl;
  surplus_is = refl;
  leaves = (lit≤ tt, refl, refl, refl);
}

pub BelowTheQuotaIsNoCap-holds : BelowTheQuotaIsNoCap
BelowTheQuotaIsNoCap-holds = record {
  round = refl;
  iteration = refl;
  states = refl;
  keeps = refl;
  votes_are = refl;
  total = refl;
  quota_is = refl;
  winners = winners_by_test _ _ _ _ _ _ refl;
  surplus_is = refl;
  leaves = (refl, refl, refl, refl, refl);
}

pub OmegaAboveTheSurplus-holds : OmegaAboveTheSurplus
OmegaAboveTheSurplus-holds = record {
  round = refl;
  iteration = refl;
  states = refl;
  keeps = refl;
  votes_are = refl;
  total = refl;
  quota_is = refl;
  winners = winners_by_test _ _ _ _ _ _ refl;
  surplus_is = refl;
  leaves = (refl, refl, refl, refl, refl, refl);
}

pub OmegaOfTheSurplus-holds : OmegaOfTheSurplus
OmegaOfTheSurplus-holds = record {
  round = refl;
  iteration = refl;
  states = refl;
  keeps = refl;
  votes_are = refl;
  total = refl;
  quota_is = refl;
  winners = winners_by_test _ _ _ _ _ _ refl;
  surplus_is = refl;
  leaves = (refl, refl, refl, refl, refl);
}

pub ElectedInAThirdIteration-holds : ElectedInAThirdIteration
ElectedInAThirdIteration-holds = record {
  round = refl;
  iteration = refl;
  states = refl;
  keeps = refl;
  votes_are = refl;
  total = refl;
  quota_is = refl;
  winners = winners_by_test _ _ _ _ _ _ refl;
  surplus_is = refl;
  leaves = (lit≤ tt, refl, refl, refl);
}

pub TieByLots-holds : TieByLots
TieByLots-holds = record {
  round = refl;
  iteration = refl;
  states = refl;
  keeps = refl;
  votes_are = refl;
  total = refl;
  quota_is = refl;
  winners = winners_by_test _ _ _ _ _ _ refl;
  surplus_is = refl;
  leaves = (refl, refl, refl, refl, refl, refl);
}

pub TwoAtOnce-holds : TwoAtOnce
TwoAtOnce-holds = record {
  round = refl;
  iteration = refl;
  states = refl;
  keeps = refl;
  votes_are = refl;
  total = refl;
  quota_is = refl;
  winners = winners_by_test _ _ _ _ _ _ refl;
  surplus_is = refl;
  leaves = (lit≤ tt, refl, refl, refl);
}
