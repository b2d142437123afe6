use Rattle.std.proofs.Common.{arith}
use Rattle.sheet_text.proofs.WritingLemmas.{wrote_nothing}
use Rattle.sheet_text.proofs.EachPlace.{wrote_more, stopped_at}
use Rattle.sheet_text.proofs.outcome.write_outcomes.Goals as goal

pub loop-p-init : goal.loop-p-init
loop-p-init g c = wrote_nothing _ _ _

pub returns-in_err-end_line : goal.returns-in_err-end_line
returns-in_err-end_line g c =
    stopped_at _ c.loop-p.p _ _ _ c.from_residual.ensures.0 (omega arith) c.push_outcome.ensures.text
    c.loop-p.invariant c.in_err-end_line.ensures

pub loop-p-preserved : goal.loop-p-preserved
loop-p-preserved g c = wrote_more _ c.loop-p.p _ c.push_outcome.ensures.text c.loop-p.invariant c.in_ok-end_line.ensures
