use Rattle.std.proofs.Common.{arith}
use Rattle.std.specs.Prelude.{decimal}
use Rattle.sheet_page.proofs.Pens.{later, nothing}
use Rattle.day_page.proofs.Listed.{listed_all, listed_more}
use Rattle.day_page.proofs.json.write_struck.Goals as goal

pub loop-i-init : goal.loop-i-init
loop-i-init g c = nothing _ _

pub loop-i-preserved : goal.loop-i-preserved
loop-i-preserved g c =
    listed_more decimal c.args.struck.now c.loop-i.i _ (omega arith) c.loop-i.invariant
    (later c.write_comma.ensures c.piece.ensures)

pub returns : goal.returns
returns g c = listed_all decimal c.args.struck.now c.loop-i.i (omega arith) c.loop-i.invariant
