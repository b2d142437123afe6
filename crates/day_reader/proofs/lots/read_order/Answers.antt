use Rattle.std.proofs.lemmas.Result.{err_from_is_err_and}
use Rattle.input_text.proofs.Reading.{behind_trans}
use Rattle.day_reader.proofs.DaySteps.{order_read}
use Rattle.day_reader.proofs.lots.read_order.Goals as goal

pub returns-in_err-read_to_lots-clause-reads : goal.returns-in_err-read_to_lots-clause-reads
returns-in_err-read_to_lots-clause-reads c =
    let p = err_from_is_err_and c.from_residual.result c.from_residual.ensures.1 in
    rw (p.1, p.2) (λ roll all. c.in_err-read_to_lots.ensures.reads roll)

pub returns-clause-reads : goal.returns-clause-reads
returns-clause-reads c =
    λ roll all. order_read roll c.args.candidates all _ _ _ c.read_lots.result
    (c.in_ok-read_to_lots.ensures.reads roll) c.read_lots.ensures.reads

pub returns-clause-behind : goal.returns-clause-behind
returns-clause-behind c = behind_trans c.in_ok-read_to_lots.ensures.behind c.read_lots.ensures.behind
