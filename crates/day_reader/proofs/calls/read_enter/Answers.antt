use Rattle.std.proofs.lemmas.Result.{err_from_is_err_and}
use Rattle.input_text.proofs.Reading.{behind_trans}
use Rattle.day_reader.proofs.CallSteps.{enter_stops, enter_batch, entering_fails, entering_read}
use Rattle.day_reader.proofs.calls.read_enter.Goals as goal

pub returns-in_err-batch-clause-reads : goal.returns-in_err-batch-clause-reads
returns-in_err-batch-clause-reads c =
    let p = err_from_is_err_and c.from_residual.result c.from_residual.ensures.1 in
    rw (p.1, p.2) (enter_stops c.args.candidates _ _ _ c.in_err-batch.ensures.fault)

pub returns-in_err-ballots-clause-reads : goal.returns-in_err-ballots-clause-reads
returns-in_err-ballots-clause-reads c =
    let p = err_from_is_err_and c.from_residual-in_err-ballots.result c.from_residual-in_err-ballots.ensures.1 in
    rw (p.1, p.2) (entering_fails c.args.candidates _ _ c.in_ok-batch.batch
    _ _ (enter_batch c.args.candidates _ _ c.in_ok-batch.batch c.in_ok-batch.ensures.number) c.in_err-ballots.ensures.reads)

pub returns-clause-reads : goal.returns-clause-reads
returns-clause-reads c =
    entering_read c.args.candidates _ _ c.in_ok-batch.batch _ c.in_ok-ballots.ballots
    (enter_batch c.args.candidates _ _ c.in_ok-batch.batch c.in_ok-batch.ensures.number) c.in_ok-ballots.ensures.candidates
    c.in_ok-ballots.ensures.reads

pub returns-in_err-batch-clause-behind : goal.returns-in_err-batch-clause-behind
returns-in_err-batch-clause-behind c = c.in_err-batch.ensures.behind

pub returns-in_err-ballots-clause-behind : goal.returns-in_err-ballots-clause-behind
returns-in_err-ballots-clause-behind c = behind_trans c.in_ok-batch.ensures.behind c.in_err-ballots.ensures.behind

pub returns-clause-behind : goal.returns-clause-behind
returns-clause-behind c = behind_trans c.in_ok-batch.ensures.behind c.in_ok-ballots.ensures.behind
