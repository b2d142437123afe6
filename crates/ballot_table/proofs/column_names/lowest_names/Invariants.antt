use Rattle.std.proofs.Common.{◌≡◌, map}
use Rattle.std.specs.List.{range_with_len}
use Rattle.ballot_table.specs.ColumnNames.{lowest}
use Rattle.ballot_table.proofs.column_names.lowest_names.Given as goal

-- the names so far
abbrev pub invariant-loop-column : goal.invariant-loop-column
invariant-loop-column l = l.names ≡ map (lowest l.records) (range_with_len 0 l.column)
