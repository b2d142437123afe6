use Rattle.std.proofs.Common.{arith}
use Rattle.std.specs.Prelude.{decimal}
use Rattle.day_text.proofs.Cuts.{none_some, without_none, behind_word, number_cut}
use Rattle.day_text.proofs.number.numbered.Goals as goal

pub returns-in_default-cut : goal.returns-in_default-cut
returns-in_default-cut c n rest up is =
    without_none 32 (decimal n) rest _ c.in_default-cut.ensures (behind_word c.args.word.now _ _ _ c.in-Some.ensures is)

pub returns-in-None : goal.returns-in-None
returns-in-None c n rest up is =
    let cut =
    number_cut _ _ _ rest n c.in-Some-cut.ensures.0 c.in-Some-cut.ensures.1 (omega (arith, up.1))
    (behind_word c.args.word.now _ _ _ c.in-Some.ensures is) in
    none_some _ n c.in-None.is (c.read_number.ensures.whole n up cut.0)
