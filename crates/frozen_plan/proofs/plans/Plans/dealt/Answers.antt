use Rattle.std.proofs.Common.{◌≡◌, length, arith}
use Rattle.std.specs.Vec.Iter.{into_iter_items}
use Rattle.frozen_plan.proofs.DealingLemmas.{shares_are_all, few_in_shares}
use Rattle.frozen_plan.proofs.TurnLemmas.{one_made}
use Rattle.frozen_plan.proofs.plans.Plans.dealt.Goals as goal

pub loop-share-preserved : goal.loop-share-preserved
loop-share-preserved c =
    one_made c.args.ballots.candidates c.args.shards c.args.ballots.lines c.loop-share.plans c.push.new.self
    (into_iter_items c.loop-share.share-iterator) (into_iter_items c.next.new.self) c.in-Some.share c.in_ok-plan.plan
    c.loop-share.invariant c.in-Some.ensures.steps.0 c.in_ok-push.ensures.ok c.in_ok-plan.ensures.candidates
    c.in_ok-plan.ensures.ballots

pub returns-clause-ballots : goal.returns-clause-ballots
returns-clause-ballots c =
    let made = c.loop-share.invariant in
    let all : length c.loop-share.plans ≡ c.args.shards =
    omega (arith, made.as_many, c.loop-share.share-iterator.rest.ok.0, c.in-None.ensures.steps.0) in
    shares_are_all c.args.shards c.args.ballots.lines c.loop-share.plans c.requires.shards all made.shares

pub returns-clause-few : goal.returns-clause-few
returns-clause-few c =
    let made = c.loop-share.invariant in
    let all : length c.loop-share.plans ≡ c.args.shards =
    omega (arith, made.as_many, c.loop-share.share-iterator.rest.ok.0, c.in-None.ensures.steps.0) in
    few_in_shares c.args.shards c.args.ballots.lines c.loop-share.plans c.requires.shards all made.shares
    c.lines_stand_for_ballots.ensures.count c.in_ok-shares.ensures.sound.bounded
