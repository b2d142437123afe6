use Rattle.piece_text.proofs.Written.{later, stops}
use Rattle.page_tree.proofs.tags.write_start.Goals as goal

pub returns-in_err-write_bytes : goal.returns-in_err-write_bytes
returns-in_err-write_bytes g c = stops _ _ c.from_residual.ensures.0 c.in_err-write_bytes.ensures

pub returns-in_err-write_bytes-2 : goal.returns-in_err-write_bytes-2
returns-in_err-write_bytes-2 g c =
    later _ _ _ c.in_ok-write_bytes.ensures
    (stops _ _ c.from_residual-in_err-write_bytes-2.ensures.0 c.in_err-write_bytes-2.ensures)

pub returns-in_err-write_attributes : goal.returns-in_err-write_attributes
returns-in_err-write_attributes g c =
    later _ _ _ c.in_ok-write_bytes.ensures (later _ _ _ c.in_ok-write_bytes-2.ensures
    (stops _ _ c.from_residual-in_err-write_attributes.ensures.0 c.in_err-write_attributes.ensures))

pub returns : goal.returns
returns g c =
    later _ _ _ c.in_ok-write_bytes.ensures (later _ _ _ c.in_ok-write_bytes-2.ensures
    (later _ _ _ c.in_ok-write_attributes.ensures c.write_bytes-3.ensures))
