use Rattle.std.proofs.Common.{Err, sym, ◌∙◌}
use Rattle.std.proofs.lemmas.Result.{err_from_is_err_and}
use Rattle.input_text.proofs.Reading.{behind_trans}
use Rattle.day_reader.specs.DayTable.{BehindTitle, BehindLots}
use Rattle.day_reader.proofs.DaySteps.{roll_fails, roll_read, goes_on_to, leads_to_none}
use Rattle.day_reader.proofs.days.read_to_end.Goals as goal

pub returns-in_err-roll-clause-reads : goal.returns-in_err-roll-clause-reads
returns-in_err-roll-clause-reads c =
    let p = err_from_is_err_and c.from_residual.result c.from_residual.ensures.1 in
    rw (p.1, p.2) (roll_fails _ _ _ c.in_err-roll.ensures.reads)

pub returns-in_err-lots-clause-reads : goal.returns-in_err-lots-clause-reads
returns-in_err-lots-clause-reads c =
    let p = err_from_is_err_and c.from_residual-in_err-lots.result c.from_residual-in_err-lots.ensures.1 in
    let roll = c.in_ok-roll.field-0.roll in
    rw (p.1, p.2) (goes_on_to _ (BehindTitle roll) _ c.read_order.new.tokens.rest (Err c.in_err-lots.field-0.0)
    (roll_read _ c.in_ok-roll.field-0 _ c.in_ok-roll.ensures.reads)
    (leads_to_none (BehindTitle roll) _ _ c.in_err-lots.field-0.0 _
    (c.in_err-lots.ensures.reads roll (sym c.candidates.ensures.value))))

pub returns-in_err-lots-clause-behind : goal.returns-in_err-lots-clause-behind
returns-in_err-lots-clause-behind c = behind_trans c.in_ok-roll.ensures.behind c.in_err-lots.ensures.behind

pub returns-clause-reads : goal.returns-clause-reads
returns-clause-reads c =
    let roll = c.in_ok-roll.field-0.roll in
    let lots = c.in_ok-lots.lots in
    goes_on_to _ (BehindLots roll lots) _ _ c.read_behind_lots.result
    (roll_read _ c.in_ok-roll.field-0 _ c.in_ok-roll.ensures.reads
    ∙ c.in_ok-lots.ensures.reads roll (sym c.candidates.ensures.value)) c.read_behind_lots.ensures.reads

pub returns-clause-behind : goal.returns-clause-behind
returns-clause-behind c =
    behind_trans c.in_ok-roll.ensures.behind
    (behind_trans c.in_ok-lots.ensures.behind c.read_behind_lots.ensures.behind)
