use Rattle.std.proofs.Common.{take}
use Rattle.std.specs.List.{flat_map}
use Rattle.piece_text.specs.Writing.{Wrote}
use Rattle.sheet_minutes.specs.Pieces.{piece_text}
use Rattle.sheet_minutes.proofs.pieces.write_pieces.Given as goal

abbrev pub invariant-loop-piece : goal.invariant-loop-piece
invariant-loop-piece g l =
    Wrote g.K.Sink.written g.K.Sink.faults l.initial.sink l.sink (flat_map piece_text (take l.piece-index l.pieces))
