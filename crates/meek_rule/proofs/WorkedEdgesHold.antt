-- The worked iterations that tell keep values and marks from near ones, by computing.
use Rattle.std.proofs.Common.{refl, lit≤}
use Rattle.meek_rule.proofs.WinnersByTest.{winners_by_test}
use Rattle.meek_rule.specs.WorkedKeeps.{RoundedUpTwice, NoVotesSameKeep, OneWholeVoteIsNoCap, CappedFromBelowOne}
use Rattle.meek_rule.specs.WorkedMarks.{OverfillByVotes, KeepsStayAtElection, TieAtTheSurplus, ElectedAreNotTied}

pub RoundedUpTwice-holds : RoundedUpTwice
RoundedUpTwice-holds = record {
  round = refl;
  iteration = refl;
  states = refl;
  keeps = refl;
  votes_are = refl;
  total = refl;
  quota_is = refl;
  winners = winners_by_test _ _ _ _ _ _ refl;
  surplus_is = refl;
  leaves = (refl, refl, refl, refl, refl);
}

pub NoVotesSameKeep-holds : NoVotesSameKeep
NoVotesSameKeep-holds = record {
  round = refl;
  iteration = refl;
  states = refl;
  keeps = refl;
  votes_are = refl;
  total = refl;
  quota_is = refl;
  winners = winners_by_test _ _ _ _ _ _ refl;
  surplus_is = refl;
  leaves = (refl, refl, refl, refl, refl);
}

pub OneWholeVoteIsNoCap-holds : OneWholeVoteIsNoCap
OneWholeVoteIsNoCap-holds = record {
  round = refl;
  iteration = refl;
  states = refl;
  keeps = refl;
  votes_are = refl;
  total = refl;
  quota_is = refl;
  winners = winners_by_test _ _ _ _ _ _ refl;
  surplus_is = refl;
  leaves = (refl, refl, refl, refl, refl);
}

pub CappedFromBelowOne-holds : CappedFromBelowOne
CappedFromBelowOne-holds = record {
  round = refl;
  iteration = refl;
  states = refl;
  keeps = refl;
  votes_are = refl;
  total = refl;
  quota_is = refl;
  winners = winners_by_test _ _ _ _ _ _ refl;
  surplus_is = refl;
  leaves = (refl, refl, refl, refl, refl);
}

pub OverfillByVotes-holds : OverfillByVotes
OverfillByVotes-holds = record {
  round = refl;
  iteration = refl;
  states = refl;
  keeps = refl;
  votes_are = refl;
  total = refl;
  quota_is = refl;
  winners = winners_by_test _ _ _ _ _ _ refl;
  surplus_is = refl;
  leaves = (lit≤ tt, refl, refl, refl);
}

pub KeepsStayAtElection-holds : KeepsStayAtElection
KeepsStayAtElection-holds = record {
  round = refl;
  iteration = refl;
  states = refl;
  keeps = refl;
  votes_are = refl;
  total = refl;
  quota_is = refl;
  winners = winners_by_test _ _ _ _ _ _ refl;
  surplus_is = refl;
  leaves = (lit≤ tt, refl, refl, refl);
}

pub TieAtTheSurplus-holds : TieAtTheSurplus
TieAtTheSurplus-holds = record {
  round = refl;
  iteration = refl;
  states = refl;
  keeps = refl;
  votes_are = refl;
  total = refl;
  quota_is = refl;
  winners = winners_by_test _ _ _ _ _ _ refl;
  surplus_is = refl;
  leaves = (refl, refl, refl, refl, refl, refl);
}

pub ElectedAreNotTied-holds : ElectedAreNotTied
ElectedAreNotTied-holds = record {
  round = refl;
  iteration = refl;
  states = refl;
  keeps = refl;
  votes_are = refl;
  total = refl;
  quota_is = refl;
  winners = winners_by_test _ _ _ _ _ _ refl;
  surplus_is = refl;
  leaves = (refl, refl, refl, refl, refl, refl);
}
