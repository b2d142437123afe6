use Rattle.std.proofs.Common.{◌∙◌}
use Rattle.std.proofs.lemmas.Result.{err_from_is_err_and}
use Rattle.input_text.proofs.Reading.{behind_trans}
use Rattle.day_reader.proofs.CallSteps.{correct_stops, correct_batch, correct_revision_stops}
use Rattle.day_reader.proofs.CallSteps.{correct_revision, correcting_fails, correcting_read}
use Rattle.day_reader.proofs.calls.read_correct.Goals as goal

pub returns-in_err-batch-clause-reads : goal.returns-in_err-batch-clause-reads
returns-in_err-batch-clause-reads c =
    let p = err_from_is_err_and c.from_residual.result c.from_residual.ensures.1 in
    rw (p.1, p.2) (correct_stops c.args.candidates _ _ _ c.in_err-batch.ensures.fault)

pub returns-in_err-revision-clause-reads : goal.returns-in_err-revision-clause-reads
returns-in_err-revision-clause-reads c =
    let p = err_from_is_err_and c.from_residual-in_err-revision.result c.from_residual-in_err-revision.ensures.1 in
    rw (p.1, p.2) (correct_batch c.args.candidates _ _ c.in_ok-batch.batch c.in_ok-batch.ensures.number
    ∙ correct_revision_stops c.args.candidates _ _ c.in_ok-batch.batch _ c.in_err-revision.ensures.fault)

pub returns-in_err-ballots-clause-reads : goal.returns-in_err-ballots-clause-reads
returns-in_err-ballots-clause-reads c =
    let p = err_from_is_err_and c.from_residual-in_err-ballots.result c.from_residual-in_err-ballots.ensures.1 in
    let so_far =
    correct_batch c.args.candidates _ _ c.in_ok-batch.batch c.in_ok-batch.ensures.number
    ∙ correct_revision c.args.candidates _ _ c.in_ok-batch.batch c.in_ok-revision.revision c.in_ok-revision.ensures.number in
    rw (p.1, p.2) (correcting_fails c.args.candidates _ _ c.in_ok-batch.batch c.in_ok-revision.revision _ _
    so_far c.in_err-ballots.ensures.reads)

pub returns-clause-reads : goal.returns-clause-reads
returns-clause-reads c =
    let so_far =
    correct_batch c.args.candidates _ _ c.in_ok-batch.batch c.in_ok-batch.ensures.number
    ∙ correct_revision c.args.candidates _ _ c.in_ok-batch.batch c.in_ok-revision.revision c.in_ok-revision.ensures.number in
    correcting_read c.args.candidates _ _ c.in_ok-batch.batch c.in_ok-revision.revision _ c.in_ok-ballots.ballots so_far
    c.in_ok-ballots.ensures.candidates c.in_ok-ballots.ensures.reads

pub returns-in_err-batch-clause-behind : goal.returns-in_err-batch-clause-behind
returns-in_err-batch-clause-behind c = c.in_err-batch.ensures.behind

pub returns-in_err-revision-clause-behind : goal.returns-in_err-revision-clause-behind
returns-in_err-revision-clause-behind c = behind_trans c.in_ok-batch.ensures.behind c.in_err-revision.ensures.behind

pub returns-in_err-ballots-clause-behind : goal.returns-in_err-ballots-clause-behind
returns-in_err-ballots-clause-behind c =
    behind_trans c.in_ok-batch.ensures.behind (behind_trans c.in_ok-revision.ensures.behind c.in_err-ballots.ensures.behind)

pub returns-clause-behind : goal.returns-clause-behind
returns-clause-behind c =
    behind_trans c.in_ok-batch.ensures.behind
    (behind_trans c.in_ok-revision.ensures.behind c.in_ok-ballots.ensures.behind)
