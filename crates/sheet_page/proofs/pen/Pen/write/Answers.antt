use Rattle.sheet_page.specs.Pieces.{piece_text}
use Rattle.sheet_page.proofs.Pens.{nothing, item_more, items_all}
use Rattle.sheet_page.proofs.pen.Pen.write.Goals as goal

pub loop-piece-init : goal.loop-piece-init
loop-piece-init g c = nothing _ _

pub loop-piece-preserved : goal.loop-piece-preserved
loop-piece-preserved g c =
    item_more (piece_text g.row.P) c.args.pieces.now c.loop-piece.piece-index c.piece-item.result c.piece-item.is
    c.loop-piece-test.true c.loop-piece.invariant c.piece.ensures

pub returns : goal.returns
returns g c = items_all (piece_text g.row.P) c.args.pieces.now c.loop-piece.piece-index c.loop-piece-test.false c.loop-piece.invariant
