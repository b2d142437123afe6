use Rattle.sheet_minutes.proofs.Taming.{texts_tame}
use Rattle.sheet_minutes.proofs.laws.texts_are_tame.Goals as goal

pub returns : goal.returns
returns c = texts_tame
