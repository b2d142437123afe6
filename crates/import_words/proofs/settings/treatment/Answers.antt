use Rattle.import_words.proofs.ExitLemmas.{none_anyway}
use Rattle.import_words.proofs.settings.treatment.Goals as goal

pub returns-in_err-skipped-clause-none : goal.returns-in_err-skipped-clause-none
returns-in_err-skipped-clause-none c =
    none_anyway c.from_residual.result (λ treatment is. c.in_err-skipped.ensures.none treatment.skipped is.0)

pub returns-in_err-treat-clause-none : goal.returns-in_err-treat-clause-none
returns-in_err-treat-clause-none c =
    none_anyway c.from_residual-in_err-treat.result
    (λ treatment is. c.in_err-treat.ensures.none treatment.equal is.1)

pub returns-in_err-treat-2-clause-none : goal.returns-in_err-treat-2-clause-none
returns-in_err-treat-2-clause-none c =
    none_anyway c.from_residual-in_err-treat-2.result
    (λ treatment is. c.in_err-treat-2.ensures.none treatment.repeated is.2)
