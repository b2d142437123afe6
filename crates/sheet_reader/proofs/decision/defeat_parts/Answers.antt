use Rattle.std.proofs.Common.{◌++◌}
use Rattle.std.specs.Prelude.{codes, decimal}
use Rattle.sheet_reader.proofs.Cuts.{without_none, none_some}
use Rattle.sheet_reader.proofs.WordLines.{at_defeat, number_cut}
use Rattle.sheet_reader.proofs.decision.defeat_parts.Goals as goal

pub returns-in_default-cut : goal.returns-in_default-cut
returns-in_default-cut c n list small is =
    without_none 32 (decimal n) (codes "tied" ++ list) _ c.in_default-cut.ensures
    (at_defeat n c.args.text.now c.in-Some.defeat.now list c.in-Some.ensures is)

pub returns-in_default-strip : goal.returns-in_default-strip
returns-in_default-strip c n list small is =
    let cut =
    number_cut _ _ _ (codes "tied" ++ list) n c.in-Some-cut.ensures.0 c.in-Some-cut.ensures.1 small
    (at_defeat n c.args.text.now c.in-Some.defeat.now list c.in-Some.ensures is) in
    c.in_default-strip.ensures list cut.1

pub returns-in-None : goal.returns-in-None
returns-in-None c n list small is =
    let cut =
    number_cut _ _ _ (codes "tied" ++ list) n c.in-Some-cut.ensures.0 c.in-Some-cut.ensures.1 small
    (at_defeat n c.args.text.now c.in-Some.defeat.now list c.in-Some.ensures is) in
    none_some _ n c.in-None.is (c.read_count.ensures.whole n small cut.0)
