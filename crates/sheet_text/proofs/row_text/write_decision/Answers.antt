use Rattle.sheet_text.proofs.WritingLemmas.{later, stops}
use Rattle.sheet_text.proofs.row_text.write_decision.Goals as goal

pub returns-in_err-write_marked : goal.returns-in_err-write_marked
returns-in_err-write_marked g c = rw (← c.row.view_is) (stops _ _ c.from_residual.ensures.0 c.in_err-write_marked.ensures)

pub returns-in_err-write_marked-2 : goal.returns-in_err-write_marked-2
returns-in_err-write_marked-2 g c =
    rw (← c.row.view_is)
    (later _ _ _ c.in_ok-write_marked.ensures
    (stops _ _ c.from_residual-in_err-write_marked-2.ensures.0 c.in_err-write_marked-2.ensures))

pub returns : goal.returns
returns g c =
    rw (← c.row.view_is)
    (later _ _ _ c.in_ok-write_marked.ensures (later _ _ _ c.in_ok-write_marked-2.ensures c.write_step.ensures))
