use Rattle.std.proofs.Common.{◌≡◌, take}
use Rattle.ballot_table.specs.ColumnNames.{lowest}
use Rattle.ballot_table.proofs.column_names.lowest.Given as goal

-- the lowest in the records so far
abbrev pub invariant-loop-texts : goal.invariant-loop-texts
invariant-loop-texts l = l.found ≡ lowest (take l.texts-index l.records) l.column
