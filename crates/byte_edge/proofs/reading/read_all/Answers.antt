use Rattle.byte_edge.proofs.Pieces.{given_up}
use Rattle.std.proofs.KnownBytes.{Consumes-trans}
use Rattle.byte_edge.proofs.reading.read_all.Goals as goal

pub returns-then-n-limit-clause-given_up : goal.returns-then-n-limit-clause-given_up
returns-then-n-limit-clause-given_up g c =
    (_, Consumes-trans _ _ _ _ _ c.loop-buffer.invariant.read c.in_ok-n.ensures.bytes.0)

pub returns-in_err-extend_from_slice-clause-given_up : goal.returns-in_err-extend_from_slice-clause-given_up
returns-in_err-extend_from_slice-clause-given_up g c =
    given_up _ _ _ _ _ _ c.loop-buffer.invariant.read c.in_ok-n.ensures.bytes.0
