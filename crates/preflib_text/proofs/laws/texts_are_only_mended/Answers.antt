use Rattle.preflib_text.proofs.MendLemmas.{mended_text}
use Rattle.preflib_text.proofs.laws.texts_are_only_mended.Goals as goal

pub returns : goal.returns
returns c = mended_text c.treatments_only_mend.ensures
