use Rattle.std.proofs.Common.{◌≡◌, take}
use Rattle.ballot_table.specs.Rows.{ranks_at}
use Rattle.ballot_table.proofs.columns.ranks_at.Given as goal

-- the ranks of the columns so far
abbrev pub invariant-loop-column : goal.invariant-loop-column
invariant-loop-column l = l.ranks.items ≡ ranks_at (take l.column-index l.columns)
