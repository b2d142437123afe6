use Rattle.std.proofs.Common.{length, ap, sym, ◌∙◌}
use Rattle.frozen_plan.specs.Plan.{all_ballots}
use Rattle.vote_spread.specs.Lanes.{LanesSeen}
use Rattle.vote_spread.proofs.LaneLemmas.{ready_again}
use Rattle.vote_spread.proofs.lanes.Lanes.load.Goals as goal

pub invariant_of-self : goal.invariant_of-self
invariant_of-self g c =
    let inside = c.self.inside in (
      ready_again (all_ballots inside.plans.value) inside.task.branches inside.task.keeping c.load.new.self
          inside.lanes.items c.args.keeps.now
          (c.requires.keeps_of_all ∙ sym (ap (λ (l : LanesSeen). length l.keeps) c.self.view_is)) c.load.ensures
          c.self.invariant.0,
      c.self.invariant.1,
    )
