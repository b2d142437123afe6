use Rattle.std.proofs.Common.{refl}
use Rattle.std.specs.Fmt.{digits}
use Rattle.day_audit.proofs.WorkedEnds.{worked_ends}
use Rattle.day_audit.proofs.WorkedWords.{worked_words}
use Rattle.day_audit.proofs.worked.worked_audits.Goals as goal

pub returns-clause-verdict_lines : goal.returns-clause-verdict_lines
unfolding digits
returns-clause-verdict_lines c = record { day_true = refl; day_false = refl; trial_true = refl; trial_false = refl }

pub returns-clause-ends : goal.returns-clause-ends
returns-clause-ends c = worked_ends

pub returns-clause-lengths : goal.returns-clause-lengths
returns-clause-lengths c =
    record { of_a_day = refl; of_a_trial = refl; of_a_text = refl; of_a_day_file = refl }

pub returns-clause-words : goal.returns-clause-words
returns-clause-words c = worked_words
