use Rattle.day_replay.proofs.WorkedVerdicts.{worked_verdicts}
use Rattle.day_replay.proofs.WorkedLines.{worked_callers, worked_lines}
use Rattle.day_replay.proofs.WorkedOrders.{worked_orders}
use Rattle.day_replay.proofs.worked.worked_calls.Goals as goal

pub returns-clause-lines : goal.returns-clause-lines
returns-clause-lines c = worked_lines

pub returns-clause-callers : goal.returns-clause-callers
returns-clause-callers c = worked_callers

pub returns-clause-orders : goal.returns-clause-orders
returns-clause-orders c = worked_orders c.a_legal_history_has_the_books_replies.ensures

pub returns-clause-verdicts : goal.returns-clause-verdicts
returns-clause-verdicts c = worked_verdicts
