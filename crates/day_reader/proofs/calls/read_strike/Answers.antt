use Rattle.std.proofs.lemmas.Result.{err_from_is_err_and}
use Rattle.day_reader.proofs.CallSteps.{strike_stops, strike_read}
use Rattle.day_reader.proofs.calls.read_strike.Goals as goal

pub returns-in_err-candidate-clause-reads : goal.returns-in_err-candidate-clause-reads
returns-in_err-candidate-clause-reads c =
    let p = err_from_is_err_and c.from_residual.result c.from_residual.ensures.1 in
    rw (p.1, p.2) (strike_stops c.args.candidates _ _ _ c.in_err-candidate.ensures.fault)

pub returns-clause-reads : goal.returns-clause-reads
returns-clause-reads c = strike_read c.args.candidates _ _ c.in_ok-candidate.candidate c.in_ok-candidate.ensures.number
