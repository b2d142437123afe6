use Rattle.std.specs.Vec.Iter.{into_iter_items}
use Rattle.frozen_plan.proofs.TurnLemmas.{AreMade}
use Rattle.frozen_plan.proofs.plans.Plans.dealt.Given as goal

abbrev pub invariant-loop-share : goal.invariant-loop-share
invariant-loop-share l =
    AreMade l.fn.ballots.candidates l.shards l.fn.ballots.lines l.plans (into_iter_items l.share-iterator)
