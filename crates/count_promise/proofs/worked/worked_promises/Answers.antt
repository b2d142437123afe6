use Rattle.std.proofs.Common.{refl}
use Rattle.std.specs.Fmt.{digits}
use Rattle.fixed_place.specs.Text.{text_of, last_digits}
use Rattle.sheet_text.specs.Lines.{text_of_lines}
use Rattle.count_promise.proofs.worked.worked_promises.Goals as goal

pub returns-clause-none : goal.returns-clause-none
unfolding text_of_lines text_of last_digits digits
returns-clause-none c = refl

pub returns-clause-tied : goal.returns-clause-tied
unfolding text_of_lines text_of last_digits digits
returns-clause-tied c = refl

pub returns-clause-seat : goal.returns-clause-seat
unfolding text_of_lines text_of last_digits digits
returns-clause-seat c = refl

pub returns-clause-votes : goal.returns-clause-votes
unfolding text_of_lines text_of last_digits digits
returns-clause-votes c = refl

pub returns-clause-great : goal.returns-clause-great
unfolding text_of_lines text_of last_digits digits
returns-clause-great c = refl

pub returns-clause-little : goal.returns-clause-little
unfolding text_of_lines text_of last_digits digits
returns-clause-little c = refl

pub returns-clause-second : goal.returns-clause-second
unfolding text_of_lines text_of last_digits digits
returns-clause-second c = refl

pub returns-clause-not_promised : goal.returns-clause-not_promised
unfolding text_of_lines text_of last_digits digits
returns-clause-not_promised c = refl

pub returns-clause-winner : goal.returns-clause-winner
unfolding text_of_lines text_of last_digits digits
returns-clause-winner c = refl

pub returns-clause-both : goal.returns-clause-both
unfolding text_of_lines text_of last_digits digits
returns-clause-both c = refl
