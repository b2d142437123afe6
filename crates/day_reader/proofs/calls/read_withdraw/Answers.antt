use Rattle.std.proofs.Common.{◌∙◌}
use Rattle.std.proofs.lemmas.Result.{err_from_is_err_and}
use Rattle.input_text.proofs.Reading.{behind_trans}
use Rattle.day_reader.proofs.CallSteps.{withdraw_stops, withdraw_batch, withdraw_revision_stops, withdraw_revision}
use Rattle.day_reader.proofs.calls.read_withdraw.Goals as goal

pub returns-in_err-batch-clause-reads : goal.returns-in_err-batch-clause-reads
returns-in_err-batch-clause-reads c =
    let p = err_from_is_err_and c.from_residual.result c.from_residual.ensures.1 in
    rw (p.1, p.2) (λ candidates. withdraw_stops candidates _ _ _ c.in_err-batch.ensures.fault)

pub returns-in_err-revision-clause-reads : goal.returns-in_err-revision-clause-reads
returns-in_err-revision-clause-reads c =
    let p = err_from_is_err_and c.from_residual-in_err-revision.result c.from_residual-in_err-revision.ensures.1 in
    rw (p.1, p.2) (λ candidates. withdraw_batch candidates _ _ c.in_ok-batch.batch c.in_ok-batch.ensures.number
    ∙ withdraw_revision_stops candidates _ _ c.in_ok-batch.batch _ c.in_err-revision.ensures.fault)

pub returns-clause-reads : goal.returns-clause-reads
returns-clause-reads c =
    λ candidates. withdraw_batch candidates _ _ c.in_ok-batch.batch c.in_ok-batch.ensures.number
    ∙ withdraw_revision candidates _ _ c.in_ok-batch.batch c.in_ok-revision.revision c.in_ok-revision.ensures.number

pub returns-in_err-batch-clause-behind : goal.returns-in_err-batch-clause-behind
returns-in_err-batch-clause-behind c = c.in_err-batch.ensures.behind

pub returns-in_err-revision-clause-behind : goal.returns-in_err-revision-clause-behind
returns-in_err-revision-clause-behind c = behind_trans c.in_ok-batch.ensures.behind c.in_err-revision.ensures.behind

pub returns-clause-behind : goal.returns-clause-behind
returns-clause-behind c = behind_trans c.in_ok-batch.ensures.behind c.in_ok-revision.ensures.behind
