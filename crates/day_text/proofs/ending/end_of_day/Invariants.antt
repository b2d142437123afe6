use Rattle.std.proofs.Common.{take}
use Rattle.batch_core.specs.Book.{empty}
use Rattle.batch_core.specs.Histories.{after_all}
use Rattle.day_text.specs.End.{IsTable, Follows}
use Rattle.day_text.proofs.ending.end_of_day.Given as goal

abbrev pub invariant-loop-at : goal.invariant-loop-at
invariant-loop-at l = record {
  table : IsTable l.ending.table.items;
  follows : Follows l.ending.table.items l.ending.struck.items (after_all empty (take l.at l.history.items));
}
