use Rattle.count_promise.proofs.Promises.{covers, no_lot_no_tie, other_lots, promises, quota_heard}
use Rattle.count_promise.proofs.laws.promises_hold.Goals as goal

pub returns-clause-seats : goal.returns-clause-seats
returns-clause-seats c =
    promises c.coalitions_are_seated.ensures.quotas c.silent_ballots_change_nothing.ensures.total
    c.silent_ballots_change_nothing.ensures.quotas c.sheets_are_read_back.ensures.form
    c.written_values_are_read.ensures.values

pub returns-clause-quota : goal.returns-clause-quota
returns-clause-quota c =
    quota_heard c.silent_ballots_change_nothing.ensures.total c.sheets_are_read_back.ensures.form
    c.written_values_are_read.ensures.values

pub returns-clause-slack : goal.returns-clause-slack
returns-clause-slack c = covers

pub returns-clause-no_lot : goal.returns-clause-no_lot
returns-clause-no_lot c = no_lot_no_tie

pub returns-clause-other_lots : goal.returns-clause-other_lots
returns-clause-other_lots c =
    other_lots c.lots_break_ties_alone.ensures c.sheets_are_read_back.ensures.form
    c.written_values_are_read.ensures.values
