use Rattle.std.proofs.Common.{refl}
use Rattle.day_ballots.proofs.WorkedAnswers.{worked_answers, worked_line_words}
use Rattle.day_ballots.proofs.WorkedFreezes.{worked_false_lines, worked_freezes}
use Rattle.day_ballots.proofs.worked.worked_freezes.Goals as goal

pub returns-clause-freezes : goal.returns-clause-freezes
returns-clause-freezes c = worked_freezes

pub returns-clause-false_lines : goal.returns-clause-false_lines
returns-clause-false_lines c = worked_false_lines

pub returns-clause-answers : goal.returns-clause-answers
returns-clause-answers c = worked_answers

pub returns-clause-longest : goal.returns-clause-longest
returns-clause-longest c = record { of_both = refl; of_a_text = refl; of_a_day_file = refl }

pub returns-clause-words : goal.returns-clause-words
returns-clause-words c = worked_line_words
