use Rattle.std.proofs.Common.{refl}
use Rattle.meek_cli.proofs.Sound.{no_work}
use Rattle.meek_cli.proofs.work.Work.from_words.Goals as goal

pub returns-in-Err-BadWords-clause-none : goal.returns-in-Err-BadWords-clause-none
returns-in-Err-BadWords-clause-none c =
    let none = rw c.in-Err-BadWords.field-0-is at c.in-Err-BadWords.ensures.refused in
    λ same. no_work _ (none refl)
