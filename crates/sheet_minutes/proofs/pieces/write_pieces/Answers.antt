use Rattle.std.proofs.Common.{subst, List}
use Rattle.std.specs.List.{flat_map}
use Rattle.std.proofs.lemmas.List.{take_all}
use Rattle.piece_text.specs.Writing.{Wrote}
use Rattle.piece_text.proofs.Written.{wrote_nothing, wrote_more, stopped_at}
use Rattle.sheet_minutes.specs.declared.piece.Piece.{Piece}
use Rattle.sheet_minutes.specs.Pieces.{piece_text}
use Rattle.sheet_minutes.proofs.pieces.write_pieces.Goals as goal

pub loop-piece-init : goal.loop-piece-init
loop-piece-init g c = wrote_nothing _ _ _

pub loop-piece-preserved : goal.loop-piece-preserved
loop-piece-preserved g c =
    wrote_more piece_text c.args.pieces.now c.loop-piece.piece-index _ c.loop-piece-test.true
    c.loop-piece.invariant c.in_ok-write_piece.ensures

pub returns-in_err-write_piece : goal.returns-in_err-write_piece
returns-in_err-write_piece g c =
    stopped_at piece_text c.args.pieces.now c.loop-piece.piece-index _ c.from_residual.result
    c.from_residual.ensures.0 c.loop-piece-test.true c.loop-piece.invariant c.in_err-write_piece.ensures

pub returns : goal.returns
returns g c =
    subst (λ (l : List Piece). Wrote g.K.Sink.written g.K.Sink.faults c.args.sink.now c.loop-piece.sink
    (flat_map piece_text l)) (take_all c.loop-piece.piece-index c.args.pieces.now c.loop-piece-test.false)
    c.loop-piece.invariant
