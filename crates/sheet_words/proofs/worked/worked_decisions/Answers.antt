use Rattle.std.proofs.Common.{refl}
use Rattle.std.specs.Fmt.{digits}
use Rattle.fixed_place.specs.Text.{text_of, last_digits}
use Rattle.sheet_words.proofs.worked.worked_decisions.Goals as goal

pub returns-clause-tie : goal.returns-clause-tie
unfolding text_of last_digits digits
returns-clause-tie c = refl

pub returns-clause-winners : goal.returns-clause-winners
unfolding text_of last_digits digits
returns-clause-winners c = refl

pub returns-clause-transfer : goal.returns-clause-transfer
unfolding text_of last_digits digits
returns-clause-transfer c = refl

pub returns-clause-votes : goal.returns-clause-votes
unfolding text_of last_digits digits
returns-clause-votes c = refl

pub returns-clause-several : goal.returns-clause-several
unfolding text_of last_digits digits
returns-clause-several c = refl
