use Rattle.day_text.proofs.Cuts.{without-next}
use Rattle.day_text.proofs.cut.cut.Goals as goal

pub loop-at-preserved : goal.loop-at-preserved
loop-at-preserved c = without-next _ c.args.text.now c.loop-at.at c.loop-at-test.true c.loop-at.invariant c.if-text-at.false
