use Rattle.day_text.proofs.Endings.{empty_table, follows_empty}
use Rattle.day_text.proofs.ending.Ending.new.Goals as goal

pub returns-clause-table : goal.returns-clause-table
returns-clause-table c = empty_table _ c.in_ok-none_entered.ensures

pub returns-clause-empty : goal.returns-clause-empty
returns-clause-empty c = follows_empty _ _ c.in_ok-none_entered.ensures c.new.ensures.items
