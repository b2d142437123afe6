use Rattle.meek_rule.proofs.TotalLemmas.{sum-votes-le, given-none, given-not_ranked, given-at_place}
use Rattle.meek_rule.proofs.WeightLemmas.{weight-falls}
use Rattle.meek_rule.proofs.WinnersUnique.{winners-unique}
use Rattle.meek_rule.proofs.laws.distribution_laws.Goals as goal

pub returns-clause-within : goal.returns-clause-within
returns-clause-within c = sum-votes-le

pub returns-clause-nothing : goal.returns-clause-nothing
returns-clause-nothing c = given-none

pub returns-clause-not_ranked : goal.returns-clause-not_ranked
returns-clause-not_ranked c = given-not_ranked

pub returns-clause-weight : goal.returns-clause-weight
returns-clause-weight c = weight-falls

pub returns-clause-place : goal.returns-clause-place
returns-clause-place c = given-at_place

pub returns-clause-winners : goal.returns-clause-winners
returns-clause-winners c = winners-unique
