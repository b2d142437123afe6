use Rattle.std.proofs.Common.{sym}
use Rattle.std.proofs.lemmas.Result.{err_from_is_err_and}
use Rattle.day_reader.specs.DayTable.{BehindLots}
use Rattle.day_reader.proofs.DaySteps.{leads_to_none}
use Rattle.day_reader.proofs.days.read_behind_lots.Goals as goal

pub returns-in_err-scale-clause-reads : goal.returns-in_err-scale-clause-reads
returns-in_err-scale-clause-reads c =
    let p = err_from_is_err_and c.from_residual.result c.from_residual.ensures.1 in
    rw (p.1, p.2) (leads_to_none (BehindLots c.args.roll c.args.lots)
    _ _ _ _ (c.in_err-scale.ensures.reads c.args.roll c.args.lots (sym c.candidates.ensures.value)))

pub returns-clause-reads : goal.returns-clause-reads
returns-clause-reads c = c.in_ok-scale.ensures.reads c.args.roll c.args.lots (sym c.candidates.ensures.value)
