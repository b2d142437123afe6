use Rattle.piece_text.proofs.Written.{writes_all}
use Rattle.piece_text.proofs.bytes.write_bytes.Goals as goal

pub returns : goal.returns
returns g c = writes_all _ _ _ _ _ _ c.write_all.ensures.all c.write_all.ensures.front c.write_all.ensures.faults
