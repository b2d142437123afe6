use Rattle.std.proofs.Common.{◌≡◌, map}
use Rattle.std.specs.Prelude.{decimal}
use Rattle.std.specs.List.{range_with_len}
use Rattle.ballot_table.proofs.column_names.numbered.Given as goal

-- the numbers so far
abbrev pub invariant-loop-column : goal.invariant-loop-column
invariant-loop-column l = l.names ≡ map decimal (range_with_len 1 l.column)
