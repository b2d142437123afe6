use Rattle.std.proofs.Common.{length, ap, arith}
use Rattle.meek_rule.specs.Row.{Row}
use Rattle.sheet_text.proofs.WritingLemmas.{wrote_nothing}
use Rattle.sheet_text.proofs.EachPlace.{wrote_more, stopped_at}
use Rattle.sheet_text.proofs.row_text.write_candidates.Goals as goal

pub loop-p-init : goal.loop-p-init
loop-p-init g c = wrote_nothing _ _ _

pub returns-in_err-end_line : goal.returns-in_err-end_line
returns-in_err-end_line g c =
    stopped_at _ c.loop-p.p _ _ _ c.from_residual.ensures.0
    (omega (arith, ap (λ (row : Row). length row.states) c.row.view_is)) c.push_candidate.ensures.text
    c.loop-p.invariant c.in_err-end_line.ensures

pub loop-p-preserved : goal.loop-p-preserved
loop-p-preserved g c = wrote_more _ c.loop-p.p _ c.push_candidate.ensures.text c.loop-p.invariant c.in_ok-end_line.ensures
