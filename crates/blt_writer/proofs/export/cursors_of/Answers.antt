use Rattle.std.proofs.Common.{sym, subst}
use Rattle.std.specs.Prelude.{AllPairs}
use Rattle.std.proofs.lemmas.List.Elements.{All-push}
use Rattle.blt_writer.specs.Merge.{AreInOrder}
use Rattle.blt_writer.specs.Order.{StandsBefore}
use Rattle.blt_writer.proofs.ExportLemmas.{plan_taken}
use Rattle.blt_writer.proofs.export.cursors_of.Goals as goal

pub loop-plan-preserved : goal.loop-plan-preserved
loop-plan-preserved c = record {
  order =
      subst AreInOrder (sym c.in_ok-push.ensures.items) (All-push (AllPairs StandsBefore)
      c.loop-plan.cursors.items c.begin.result c.loop-plan.invariant.order c.begin.ensures.rising);
  ballots =
      plan_taken c.loop-plan.cursors.items c.push.new.self.items c.loop-plan.others c.pop.new.self
      c.begin.result c.in-Some.plan _
      c.in_ok-push.ensures.items c.in-Some.ensures.last c.begin.ensures.ballots c.loop-plan.invariant.ballots;
}
