use Rattle.std.proofs.lemmas.Result.{err_from_is_err_and}
use Rattle.input_text.proofs.Reading.{behind_trans}
use Rattle.day_reader.proofs.DaySteps.{scripts_fail, scripts_read}
use Rattle.day_reader.proofs.days.read_scaled_scripts.Goals as goal

pub returns-in_err-scale-clause-reads : goal.returns-in_err-scale-clause-reads
returns-in_err-scale-clause-reads c =
    let p = err_from_is_err_and c.from_residual.result c.from_residual.ensures.1 in
    rw (p.1, p.2) (λ roll lots all. c.in_err-scale.ensures.reads roll lots)

pub returns-in_err-scripts-clause-reads : goal.returns-in_err-scripts-clause-reads
returns-in_err-scripts-clause-reads c =
    let p = err_from_is_err_and c.from_residual-in_err-scripts.result c.from_residual-in_err-scripts.ensures.1 in
    rw (p.1, p.2) (λ roll lots all. scripts_fail roll c.args.candidates all lots _ _ _ c.in_ok-scale.scale
    c.in_ok-scale.ensures.reads _ _ c.in_err-scripts.ensures.reads)

pub returns-in_err-scripts-clause-behind : goal.returns-in_err-scripts-clause-behind
returns-in_err-scripts-clause-behind c = behind_trans c.in_ok-scale.ensures.behind c.in_err-scripts.ensures.behind

pub returns-clause-reads : goal.returns-clause-reads
returns-clause-reads c =
    λ roll lots all. scripts_read roll c.args.candidates all lots _ _ _ c.in_ok-scale.scale c.in_ok-scale.ensures.reads
    c.in_ok-scripts.scripts c.in_ok-scripts.ensures.reads

pub returns-clause-behind : goal.returns-clause-behind
returns-clause-behind c = behind_trans c.in_ok-scale.ensures.behind c.in_ok-scripts.ensures.behind
