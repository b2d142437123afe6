-- The worked iterations, by computing.
use Rattle.std.proofs.Common.{refl, lit≤}
use Rattle.meek_rule.proofs.WinnersByTest.{winners_by_test}
use Rattle.meek_rule.specs.Worked.{CappedKeep, Overfill, SurplusOfOmega, SurplusBelowOmega, SurplusNotFalling}
use Rattle.meek_rule.specs.Worked.{SurplusFalling, TieWithinSurplus, ThreeBallots}

pub CappedKeep-holds : CappedKeep
CappedKeep-holds = record {
  round = refl;
  iteration = refl;
  states = refl;
  keeps = refl;
  votes_are = refl;
  total = refl;
  quota_is = refl;
  winners = winners_by_test _ _ _ _ _ _ refl;
  surplus_is = refl;
  leaves = (refl, refl, refl, refl, refl);
}

pub Overfill-holds : Overfill
Overfill-holds = record {
  round = refl;
  iteration = refl;
  states = refl;
  keeps = refl;
  votes_are = refl;
  total = refl;
  quota_is = refl;
  winners = winners_by_test _ _ _ _ _ _ refl;
  surplus_is = refl;
  leaves = (lit≤ tt, refl, refl, refl);
}

pub SurplusOfOmega-holds : SurplusOfOmega
SurplusOfOmega-holds = record {
  round = refl;
  iteration = refl;
  states = refl;
  keeps = refl;
  votes_are = refl;
  total = refl;
  quota_is = refl;
  winners = winners_by_test _ _ _ _ _ _ refl;
  surplus_is = refl;
  leaves = (refl, refl, refl, refl, refl);
}

pub SurplusBelowOmega-holds : SurplusBelowOmega
SurplusBelowOmega-holds = record {
  round = refl;
  iteration = refl;
  states = refl;
  keeps = refl;
  votes_are = refl;
  total = refl;
  quota_is = refl;
  winners = winners_by_test _ _ _ _ _ _ refl;
  surplus_is = refl;
  leaves = (refl, refl, refl, refl, refl, refl);
}

pub SurplusNotFalling-holds : SurplusNotFalling
SurplusNotFalling-holds = record {
  round = refl;
  iteration = refl;
  states = refl;
  keeps = refl;
  votes_are = refl;
  total = refl;
  quota_is = refl;
  winners = winners_by_test _ _ _ _ _ _ refl;
  surplus_is = refl;
  leaves = (refl, refl, refl, refl, refl, refl);
}

pub SurplusFalling-holds : SurplusFalling
SurplusFalling-holds = record {
  round = refl;
  iteration = refl;
  states = refl;
  keeps = refl;
  votes_are = refl;
  total = refl;
  quota_is = refl;
  winners = winners_by_test _ _ _ _ _ _ refl;
  surplus_is = refl;
  leaves = (refl, refl, refl, refl, refl);
}

pub TieWithinSurplus-holds : TieWithinSurplus
TieWithinSurplus-holds = record {
  round = refl;
  iteration = refl;
  states = refl;
  keeps = refl;
  votes_are = refl;
  total = refl;
  quota_is = refl;
  winners = winners_by_test _ _ _ _ _ _ refl;
  surplus_is = refl;
  leaves = (refl, refl, refl, refl, refl, refl);
}

pub ThreeBallots-holds : ThreeBallots
ThreeBallots-holds = refl
