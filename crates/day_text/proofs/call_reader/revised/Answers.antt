use Rattle.std.proofs.Common.{◌∷◌, ◌++◌, sym, ◌∙◌, arith}
use Rattle.std.specs.Prelude.{decimal}
use Rattle.day_text.proofs.Cuts.{numbered_once}
use Rattle.day_text.proofs.call_reader.revised.Goals as goal

pub returns-in-None : goal.returns-in-None
returns-in-None c batch revision rest numbered revised is =
    let read = c.in-Some.ensures in
    let once =
    numbered_once c.args.word.now c.in-Some.batch batch c.in-Some.behind.now (decimal revision ++ 32 ∷ rest)
    (omega (arith, read.0.1)) (omega (arith, numbered.1)) (sym read.1 ∙ is) in
    c.in-None.ensures revision rest revised once.1
