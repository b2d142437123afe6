use Rattle.frozen_plan.proofs.DealingLemmas.{shares_are_all, few_in_shares}
use Rattle.frozen_plan.proofs.TurnLemmas.{same_turns, turns_are_shares}
use Rattle.frozen_plan.proofs.plans.Plans.of_packed.Goals as goal

pub returns-clause-shares : goal.returns-clause-shares
returns-clause-shares g c =
    turns_are_shares _ c.of.result (same_turns c.of-deal.ensures.value c.of.ensures c.in_ok-plans.ensures)

pub returns-clause-ballots : goal.returns-clause-ballots
returns-clause-ballots g c =
    let made = same_turns c.of-deal.ensures.value c.of.ensures c.in_ok-plans.ensures in
    shares_are_all c.args.shards c.args.packed.lines c.of.result c.requires.shards made.as_many
    (turns_are_shares _ c.of.result made)

pub returns-clause-few : goal.returns-clause-few
returns-clause-few g c =
    let made = same_turns c.of-deal.ensures.value c.of.ensures c.in_ok-plans.ensures in
    few_in_shares c.args.shards c.args.packed.lines c.of.result c.requires.shards made.as_many
    (turns_are_shares _ c.of.result made) c.lines_stand_for_ballots.ensures.count c.of-deal.ensures.few
