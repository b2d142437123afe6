use Rattle.day_text.proofs.Cuts.{none_some, behind_word}
use Rattle.day_text.proofs.number.last_number.Goals as goal

pub returns-in-None : goal.returns-in-None
returns-in-None c n up is =
    none_some _ n c.in-None.is (c.read_number.ensures.whole n up (behind_word c.args.word.now _ _ _ c.in-Some.ensures is))
