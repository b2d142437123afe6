use Rattle.piece_text.proofs.Written.{later, stops}
use Rattle.blt_writer.proofs.file.write_opening.Goals as goal

pub returns-in_err-write_head : goal.returns-in_err-write_head
returns-in_err-write_head g c = stops _ _ c.from_residual.ensures.0 c.in_err-write_head.ensures

pub returns : goal.returns
returns g c = later _ _ _ c.in_ok-write_head.ensures c.write_withdrawn.ensures
