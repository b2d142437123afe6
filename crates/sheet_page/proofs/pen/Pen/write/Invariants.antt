use Rattle.std.proofs.Common.{take}
use Rattle.std.specs.List.{flat_map}
use Rattle.sheet_page.specs.Pieces.{piece_text}
use Rattle.sheet_page.specs.Prints.{Prints}
use Rattle.sheet_page.proofs.pen.Pen.write.Given as goal

abbrev pub invariant-loop-piece : goal.invariant-loop-piece
invariant-loop-piece g l =
    Prints g.K.Sink l.initial.self l.self
    (flat_map (piece_text g.row.P) (take l.piece-index l.pieces))
