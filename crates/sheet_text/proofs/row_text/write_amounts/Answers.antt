use Rattle.sheet_text.proofs.WritingLemmas.{later, stops}
use Rattle.sheet_text.proofs.row_text.write_amounts.Goals as goal

pub returns-in_err-write_amount_line : goal.returns-in_err-write_amount_line
returns-in_err-write_amount_line g c =
    rw (← c.row.view_is) (stops _ _ c.from_residual.ensures.0 c.in_err-write_amount_line.ensures)

pub returns-in_err-write_amount_line-2 : goal.returns-in_err-write_amount_line-2
returns-in_err-write_amount_line-2 g c =
    rw (← c.row.view_is)
    (later _ _ _ c.in_ok-write_amount_line.ensures
    (stops _ _ c.from_residual-in_err-write_amount_line-2.ensures.0 c.in_err-write_amount_line-2.ensures))

pub returns : goal.returns
returns g c =
    rw (← c.row.view_is)
    (later _ _ _ c.in_ok-write_amount_line.ensures
    (later _ _ _ c.in_ok-write_amount_line-2.ensures c.write_amount_line-3.ensures))
